-- A reference at hand goes to a variable that had one, or has none any more: the state is typed again.
use Rattle.std.proofs.Common.{◌≡◌, ◌≢◌, ◌⊎◌, inl, inr, ⊎_elim, ◌∙◌, ℕ, suc, ◌<◌, Bool, true, false, List, [], ◌∷◌, length, Option, Some, None, refl, sym, ap, subst, arith}
use Rattle.fr_base.specs.declared.label.Plain.{Plain}
use Rattle.fr_base.specs.declared.label.Plain.TheVariants as plain
use Rattle.fr_base.specs.declared.name.ObjNo.{ObjNo}
use Rattle.fr_base.specs.declared.place.Lval.{Lval}
use Rattle.fr_typing.specs.Kinds.{map_some, Owned, box, Kind, own, shared, mutable, view, Piece, whole, gone, boxed}
use Rattle.fr_typing.specs.Places.{Env, Shape, AreBelow, kind_places, found, type_at, write_blocked, owned_shape, shared_to, mutable_to, same_owned_shape, first_shape, kind_shape, piece_shape, equal_shapes, shape_at, put_at}
use Rattle.fr_typing.specs.Checks.{is_owned, has_shape_of}
use Rattle.fr_store.specs.Keys.{Key, slot_k}
use Rattle.fr_store.specs.Store.{Alike, Location, at_key, Val, gone_v, ref_v, Store, value_at, Place, put_value}
use Rattle.fr_store.specs.Changes.{SameButTwo}
use Rattle.fr_store.specs.Typed.{hole, Exact, owns, refers, KeyTypes, Typed, Unnamed}
use Rattle.fr_store.specs.Below.{ExactOf}
use Rattle.fr_store.specs.Rows.{with_type}
use Rattle.fr_store.specs.Thread.{ThreadTyped}
use Rattle.fr_store.proofs.Keys.{key_same, key_other, decide_key}
use Rattle.fr_store.proofs.Chains.{decide_location}
use Rattle.fr_store.proofs.Sound.{ref_at}
use Rattle.fr_store.proofs.Below.{mut_place, slot_exact}
use Rattle.fr_store.proofs.Rows.{top_fits, move_ref, unnamed_with, same_store, put_there, put_other}
use Rattle.fr_store.proofs.PutAt.{length_put, nested_put, slots_set}
use Rattle.fr_store.proofs.ThreadKept.{exact_with, known_tree, ref_low, slots_with, still_hole, unnamed_key}
use Rattle.fr_plain.specs.State.{State, in_slot, slot_at, with_slot}
use Rattle.fr_plain.specs.PlainState.{Running, PlainState}
use Rattle.fr_plain.specs.declared.value.Value.{Value}
use Rattle.fr_sound.specs.Entries.{Entry, going}
use Rattle.fr_plain.specs.declared.value.Value.TheVariants.{Own}
use Rattle.fr_sound.specs.Seen.{owned_val, seen_cell}
use Rattle.fr_sound.specs.States.{Typing, RunningTyped, slot_val, owned_part, env_at, part_at, is_hidden, is_held, thread_of_key}
use Rattle.law_plain_values.specs.acts.Positions.{Position, Knows, temps_of, PositionTypes}
use Rattle.law_plain_values.proofs.acts.Lower.{seen_as, seen_is}
use Rattle.law_plain_values.proofs.acts.OneThread.{store, typing_with, Counted, Carried}
use Rattle.law_plain_values.proofs.acts.Raised.{ranked_by, raised, raised_typing}
use Rattle.law_plain_values.proofs.acts.Hoisted.{hoist, hoist_mine, hoist_other, hoisted}
use Rattle.law_plain_values.proofs.acts.Focus.{top_none, top_some, hand_at, Focus, temp_none}
use Rattle.law_plain_values.proofs.acts.AtHand.{Only, mark_off}
use Rattle.law_plain_values.proofs.acts.Hand.{At, pushed_others}
use Rattle.law_plain_values.proofs.acts.Operands.{Loaded, hand_value}
use Rattle.law_plain_values.proofs.acts.Rethread.{Stood, rethread}
use Rattle.law_plain_values.proofs.acts.Threads.{no_pair}
use Rattle.law_plain_values.proofs.acts.Envs.{hidden_put, owned_put, part_type}
use Rattle.law_plain_values.proofs.acts.Slots.{hand_clear, clear_same, focus_at, owned_in, lock_with}
use Rattle.law_plain_values.proofs.acts.SlotTurn.{slot_two, temp_two, same_two, slots_changed}
use Rattle.law_plain_values.proofs.acts.Written.{Writes, slot_written, slot_unwritten, slots_many, held_same, mark_same, mark_was}
use Rattle.law_plain_values.proofs.acts.Refs.{none_owns}

-- WHAT STOOD THERE

-- the exact type of a part that has a reference's shape is a hole or refers
abbrev Light : Exact → Type 0
Light p = (p ≡ owns hole) ⊎ ((m : Bool) × (u : Place) × (p ≡ refers m u))

-- no owned type has a reference's shape
not_owned : (look : Lval → Option Shape) (k : Kind) (o : Owned) → is_owned k ≡ false → equal_shapes (Some (owned_shape o)) (kind_shape look k) ≡ true → ⊥
not_owned look (own x) o ref e = cc
not_owned look (shared us) o ref e = by (first_shape look us) e
  where
    by : (f : Option Shape) → equal_shapes (Some (owned_shape o)) (map_some shared_to f) ≡ true → ⊥
    by None e = cc
    by (Some y) e = cc
not_owned look (mutable us) o ref e = by (first_shape look us) e
  where
    by : (f : Option Shape) → equal_shapes (Some (owned_shape o)) (map_some mutable_to f) ≡ true → ⊥
    by None e = cc
    by (Some y) e = cc
not_owned look (view x) o ref e = cc

not_boxed : (look : Lval → Option Shape) (k : Kind) (f : Option Shape) → is_owned k ≡ false → equal_shapes (same_owned_shape f) (kind_shape look k) ≡ true → ⊥
not_boxed look k None ref e = cc
not_boxed look k (Some (owned_shape o)) ref e = not_owned look k (box o) ref e
not_boxed look k (Some (shared_to y)) ref e = cc
not_boxed look k (Some (mutable_to y)) ref e = cc

light_shape : (look : Lval → Option Shape) (k : Kind) → is_owned k ≡ false → (key : ℕ → Key) (E : KeyTypes) (p : Piece) (q : Exact) → equal_shapes (piece_shape look p) (kind_shape look k) ≡ true → ExactOf key E p q → Light q
light_shape look k ref key E p (refers m u) shape h = inr (m, u, refl)
light_shape look k ref key E (whole (own o)) (owns t) shape h = absurd (not_owned look k o ref shape)
light_shape look k ref key E (whole (shared us)) (owns t) shape h = absurd h
light_shape look k ref key E (whole (mutable us)) (owns t) shape h = absurd h
light_shape look k ref key E (whole (view o)) (owns t) shape h = absurd h
light_shape look k ref key E (gone x) (owns t) shape h = inl (ap owns h)
light_shape look k ref key E (boxed p) (owns t) shape h = absurd (not_boxed look k (piece_shape look p) ref shape)

-- and it is of no owned type
no_owned_part : (look : Lval → Option Shape) (k : Kind) → is_owned k ≡ false → (p : Piece) → equal_shapes (piece_shape look p) (kind_shape look k) ≡ true → owned_part p ≡ None
no_owned_part look k ref (whole (own o)) shape = absurd (not_owned look k o ref shape)
no_owned_part look k ref (whole (shared us)) shape = refl
no_owned_part look k ref (whole (mutable us)) shape = refl
no_owned_part look k ref (whole (view o)) shape = refl
no_owned_part look k ref (gone (own o)) shape = absurd (not_owned look k o ref shape)
no_owned_part look k ref (gone (shared us)) shape = refl
no_owned_part look k ref (gone (mutable us)) shape = refl
no_owned_part look k ref (gone (view o)) shape = refl
no_owned_part look k ref (boxed p) shape = absurd (not_boxed look k (piece_shape look p) ref shape)

no_owned_kind : (k : Kind) → is_owned k ≡ false → owned_part (whole k) ≡ None
no_owned_kind (own o) ref = cc
no_owned_kind (shared us) ref = refl
no_owned_kind (mutable us) ref = refl
no_owned_kind (view o) ref = refl

hand_ref : (key : ℕ → Key) (E : KeyTypes) (k : Kind) (q : Exact) → is_owned k ≡ false → ExactOf key E (whole k) q → (m : Bool) × (u : Place) × (q ≡ refers m u)
hand_ref key E k (refers m u) ref h = (m, u, refl)
hand_ref key E (own o) (owns t) ref h = cc
hand_ref key E (shared us) (owns t) ref h = absurd h
hand_ref key E (mutable us) (owns t) ref h = absurd h
hand_ref key E (view o) (owns t) ref h = absurd h

-- what stands with such a type isn't counted
light_value : (rank : Key → ℕ) (E : KeyTypes) (s : Store) (j : Key) → Typed rank E s → Light (E j) → Counted (s.at j) → ⊥
light_value rank E s j t (inl e) c = subst Counted (top_fits rank E s t j hole e) c
light_value rank E s j t (inr r) c = subst Counted (ref_at rank E s t j r.0 r.1 r.2).is c

some_val : {p q : Val} → Some p ≡ Some q → p ≡ q
some_val e = cc

-- THE CHANGE

module _ {y0 : Typing} {a0 : PlainState Position} {n : ℕ} {x : Running Position} {e : Env} {us : List Kind} {g : Owned} {k : Kind} {v : Value} {ws : List Value} (l : Loaded y0 a0 n x e us g k v ws) (i : ℕ) (p : Piece) (ref : is_owned k ≡ false) (lt : i < length e) (is : type_at e (record { slot = i; depth = 0 }) ≡ found p) (shape : has_shape_of e p k ≡ true) (free : write_blocked e i ≡ false)
    (low : AreBelow i (kind_places k)) (old : Value) (stands : slot_at l.running.slots i ≡ Some old) (unheld : is_held (Some old) ≡ false) where
  -- ranks that suit
  abbrev high : ℕ
  high = suc (l.typing.rank (hand_at n us))

  abbrev h0 : Typing
  h0 = ranked_by (hoist (suc (l.typing.rank (hand_at n us))) n l.typing.rank) l.typing

  abbrev z : Typing
  z = raised_typing (suc (h0.rank (slot_k n (length e)))) h0

  at_hoisted : At (ranked_by (hoist (suc (l.typing.rank (hand_at n us))) n l.typing.rank) l.typing) l.state n l.running e (k ∷ us) g
  at_hoisted = record { state = hoisted high l.typing l.state n l.at.state (no_pair l.at); runs = l.at.runs; entry = l.at.entry }

  at_two : At z l.state n l.running e (k ∷ us) g
  at_two = record { state = raised (suc (h0.rank (slot_k n (length e)))) h0 l.state at_hoisted.state; runs = l.at.runs; entry = l.at.entry }

  focused : Focus z l.state n e us (Some k)
  focused = focus_at h0 l.state n l.running e (k ∷ us) us (Some k) g at_hoisted top_some l.waits

  abbrev w : Lval
  w = record { slot = i; depth = 0 }

  abbrev x0 : Key
  x0 = slot_k n i

  abbrev hand : Key
  hand = hand_at n us

  abbrev s1 : Store
  s1 = store z l.state

  -- what is at hand names a lower slot of the thread, or another's
  lower : (m : Bool) (u : Place) → z.exact hand ≡ refers m u → ((d : ℕ) × (d < i) × (u.key ≡ slot_k n d)) ⊎ ((d : ℕ) → u.key ≢ slot_k n d)
  lower m u q = ref_low (slot_k n) z.exact (whole k) m u i low (subst (ExactOf (slot_k n) z.exact (whole k)) q focused.thread.temp)

  unnamed : Unnamed z.exact (slot_k n i)
  unnamed = unnamed_key (slot_k n) z.rank (hand_at n us) e z.exact s1 (Some k) focused.keys focused.thread i free (λ m u q. by u (lower m u q))
    where
      by : (u : Place) → ((d : ℕ) × (d < i) × (u.key ≡ slot_k n d)) ⊎ ((d : ℕ) → u.key ≢ slot_k n d) → u.key ≢ slot_k n i
      by u (inl d) f = let q : slot_k n d.0 ≡ slot_k n i = sym d.2 ∙ f in let same : d.0 ≡ i = cc in let less = d.1 in omega (arith, same, less)
      by u (inr d) f = d i f

  rank_ok : (m : Bool) (u : Place) → z.exact hand ≡ refers m u → z.rank u.key < z.rank (slot_k n i)
  rank_ok m u q = by (lower m u q)
    where
      by : ((d : ℕ) × (d < i) × (u.key ≡ slot_k n d)) ⊎ ((d : ℕ) → u.key ≢ slot_k n d) → z.rank u.key < z.rank (slot_k n i)
      by (inl d) = let f = focused.keys.ranks d.0 i d.1 in let same = ap z.rank d.2 in omega (arith, f, same)
      by (inr d) =
          let b = l.at.state.near hand m u q in
          let ne : b.owner ≢ n = λ f. d b.slot (b.is ∙ ap (λ c. slot_k c b.slot) f) in
          let under = l.at.state.typed.below hand m u q in
          let same : z.rank u.key ≡ l.typing.rank u.key = ap z.rank b.is ∙ ap h0.rank (sym b.is) ∙ hoist_other high n l.typing.rank u.key b.owner (ap thread_of_key b.is) ne in
          let up = hoist_mine high n l.typing.rank (slot_k n i) refl in
          omega (arith, under, same, up)

  refs : (m : Bool) × (u : Place) × (z.exact hand ≡ refers m u)
  refs = hand_ref (slot_k n) z.exact k (z.exact hand) ref focused.thread.temp

  -- what stood in the variable is a reference, or nothing
  light : Light (z.exact (slot_k n i))
  light = light_shape (shape_at e) k ref (slot_k n) z.exact p (z.exact x0) shape (slot_exact (slot_k n) z.exact (mut_place z.rank z.exact s1 focused.thread.typed) e i p focused.thread.slots is)

  module _ (m : Bool) (u : Place) (hand_is : z.exact (hand_at n us) ≡ refers m u) (a2 : PlainState Position) where
    abbrev x2 : Running Position
    x2 = record { place = record { entry = going (put_at e (record { slot = i; depth = 0 }) (whole k)) us g; temps = ws }; slots = with_slot l.running.slots i v }

    abbrev E1 : KeyTypes
    E1 = with_type z.exact hand (owns hole)

    abbrev E2 : KeyTypes
    E2 = with_type E1 x0 (refers m u)

    abbrev s2 : Store
    s2 = store (typing_with z E2 z.marks) a2

    abbrev st : State
    st = record { thread = n; slots = l.running.slots; heap = [] }

    module _ (only : Only l.state a2 n x2) (objects : (o : ObjNo) → a2.object o ≡ l.state.object o) where
      run : RunningTyped Knows temps_of z s1 n (l.state.pair n) l.running
      run = at_two.state.threads n l.running l.at.runs

      e_is : run.entry ≡ going e (k ∷ us) g
      e_is = sym run.known ∙ l.at.entry

      as_many_temps : length ws ≡ length us
      as_many_temps = let q = run.all_temps ∙ ap (λ (b : Entry). length b.temps) e_is in let c = ap length l.temps in omega (arith, q, c)

      at_hand : s1.at hand ≡ seen_as z.gives n gone_v (Some v)
      at_hand = hand_value z l.state n (length us) l.running v ws l.at.runs l.temps (sym as_many_temps)

      clear : is_held (Some v) ≡ false
      clear = hand_clear z.rank z.exact s1 z.gives n hand k v at_two.state.typed focused.thread.temp at_hand

      wr : Writes st (in_slot i) v old
      wr = record { is = stands; clear = unheld; new_clear = clear; cell = λ o q. cc }

      two : SameButTwo (at_key hand) (at_key x0) s1 s2
      two =
          same_two z l.state a2 n l.running x2 E2 (length us) (at_key x0) l.at.runs only
          (λ d ne. ap (seen_as z.gives n (ref_v (z.marks n d))) (slot_unwritten l.running.slots i d v (λ q. ne (ap (λ j. at_key (slot_k n j)) q))))
          (λ d ne. sym (ap (λ q. seen_as z.gives n gone_v (slot_at q d)) l.temps ∙ ap (seen_as z.gives n gone_v) (pushed_others v ws d (length us) (sym as_many_temps) ne)))
          (λ o ne. ap (seen_cell z.gives) (objects o))

      there : s2.at x0 ≡ s1.at hand
      there = slot_two z l.state a2 n l.running x2 E2 z.marks l.at.runs only i ∙ ap (seen_as z.gives n (ref_v (z.marks n i))) (slot_written l.running.slots i v old stands) ∙ clear_same z.gives n (ref_v (z.marks n i)) gone_v v clear ∙ sym at_hand

      empty : s2.at hand ≡ gone_v
      empty = temp_two z l.state a2 n l.running x2 E2 z.marks l.at.runs only (length us) ∙ ap (seen_as z.gives n gone_v) (temp_none ws (length us) (omega (arith, as_many_temps)))

      moved : Typed z.rank E2 s2
      moved = same_store z.rank E2 E2 (put_value (put_value s1 (at_key hand) gone_v) (at_key x0) (s1.at hand)) s2 (move_ref z.rank z.exact s1 hand x0 m u at_two.state.typed focused.thread.quiet unnamed (λ q. cc) hand_is (rank_ok m u hand_is)) (λ j. refl) alike
        where
          alike : Alike (put_value (put_value s1 (at_key hand) gone_v) (at_key x0) (s1.at hand)) s2
          alike q = by (decide_location q (at_key x0)) (decide_location q (at_key hand))
            where
              by : (q ≡ at_key x0) ⊎ (q ≢ at_key x0) → (q ≡ at_key hand) ⊎ (q ≢ at_key hand) → value_at s2 q ≡ value_at (put_value (put_value s1 (at_key hand) gone_v) (at_key x0) (s1.at hand)) q
              by (inl f) d = ap (value_at s2) f ∙ ap Some there ∙ sym (put_there (put_value s1 (at_key hand) gone_v) (at_key x0) (s1.at hand)) ∙ ap (value_at (put_value (put_value s1 (at_key hand) gone_v) (at_key x0) (s1.at hand))) (sym f)
              by (inr f) (inl d) = ap (value_at s2) d ∙ ap Some empty ∙ sym (put_there s1 (at_key hand) gone_v) ∙ ap (value_at (put_value s1 (at_key hand) gone_v)) (sym d) ∙ sym (put_other (put_value s1 (at_key hand) gone_v) (at_key x0) (s1.at hand) q f)
              by (inr f) (inr d) = two q d f ∙ sym (put_other s1 (at_key hand) gone_v q d) ∙ sym (put_other (put_value s1 (at_key hand) gone_v) (at_key x0) (s1.at hand) q f)

      hand_light : Counted (s1.at hand) → ⊥
      hand_light = light_value z.rank z.exact s1 hand at_two.state.typed (inr (m, u, hand_is))

      carried : Carried s1 s2
      carried = record {
        to = λ q. q;
        from = λ q. q;
        from_to = λ q. refl;
        to_from = λ q. refl;
        there = λ q c counted f. by q c counted f (decide_location q (at_key hand)) (decide_location q (at_key x0));
        back = λ q c counted f. back q c counted f (decide_location q (at_key hand)) (decide_location q (at_key x0));
      }
        where
          by : (q : Location) (c : Val) → Counted c → value_at s1 q ≡ Some c → (q ≡ at_key hand) ⊎ (q ≢ at_key hand) → (q ≡ at_key x0) ⊎ (q ≢ at_key x0) → value_at s2 q ≡ Some c
          by q c counted f (inl d) b = absurd (hand_light (subst Counted (some_val (sym f ∙ ap (value_at s1) d)) counted))
          by q c counted f (inr d) (inl b) = absurd (light_value z.rank z.exact s1 x0 at_two.state.typed light (subst Counted (some_val (sym f ∙ ap (value_at s1) b)) counted))
          by q c counted f (inr d) (inr b) = two q d b ∙ f

          back : (q : Location) (c : Val) → Counted c → value_at s2 q ≡ Some c → (q ≡ at_key hand) ⊎ (q ≢ at_key hand) → (q ≡ at_key x0) ⊎ (q ≢ at_key x0) → value_at s1 q ≡ Some c
          back q c counted f (inl d) b = absurd (subst Counted (some_val (sym f ∙ ap (value_at s2) d) ∙ empty) counted)
          back q c counted f (inr d) (inl b) = absurd (hand_light (subst Counted (some_val (sym f ∙ ap (value_at s2) b) ∙ there) counted))
          back q c counted f (inr d) (inr b) = sym (two q d b) ∙ f

      stood : Stood (slot_k n) hand z.exact E2
      stood j q c js =
          ⊎_elim (λ (f : j ≡ x0). inr (hand, hand_is ∙ sym (key_same x0 (refers m u) (E1 x0)) ∙ ap E2 (sym f) ∙ js, inl refl, inr (i, f)))
          (λ (ne : j ≢ x0). inl (known_tree (slot_k n) hand z.exact hand hole j q c (sym (key_other j x0 (refers m u) (E1 j) ne) ∙ js))) (decide_key j x0)

      thread : ThreadTyped (slot_k n) z.rank hand (put_at e w (whole k)) E2 s2 None
      thread =
          let exact = exact_with (slot_k n) z.exact hand (owns hole) (whole k) (z.exact hand) focused.thread.quiet (λ q c js. focused.thread.quiet hand q c js) focused.thread.temp in
          let free_now = unnamed_with z.exact hand hole x0 unnamed in
          let exact2 = exact_with (slot_k n) E1 x0 (refers m u) (whole k) (z.exact hand) free_now (λ q c js. unnamed hand q c js) exact in
          rethread focused.thread (record {
            typed = moved;
            nested = nested_put e w (whole k) low focused.thread.nested;
            slots = slots_set (slot_k n) E1 e i (whole k) (refers m u) focused.keys.differ (slots_with (slot_k n) z.exact hand (owns hole) e focused.thread.quiet (λ d b. focused.keys.off d) focused.thread.slots) free_now (subst (ExactOf (slot_k n) E2 (whole k)) hand_is exact2);
            above = λ d le. let long = length_put e w (whole k) in key_other (slot_k n d) x0 (refers m u) (E1 (slot_k n d)) (λ f. let same : d ≡ i = cc in omega (arith, same, le, long, lt)) ∙ still_hole z.exact hand (slot_k n d) (focused.thread.above d (omega (arith, le, long)));
            temp = key_other hand x0 (refers m u) (E1 hand) (λ f. cc) ∙ key_same hand (owns hole) (z.exact hand);
            names = tt;
            over = λ d il. focused.thread.over d (subst (λ b. d < b) (length_put e w (whole k)) il);
            stood = stood;
          })

      parts : (d : ℕ) → owned_in (part_at (put_at e w (whole k)) d) ≡ owned_in (part_at e d)
      parts = owned_put e w (whole k) (λ s q. let f : found s.part ≡ found p = sym (part_type e i s q) ∙ is in let same : s.part ≡ p = cc in no_owned_kind k ref ∙ sym (no_owned_part (shape_at e) k ref p shape) ∙ ap owned_part (sym same))

      pub turned_typed : PositionTypes (typing_with z (with_type (with_type z.exact (hand_at n us) (owns hole)) (slot_k n i) (refers m u)) z.marks) a2
      turned_typed = slots_changed at_two focused (record {
        only = only;
        objects = λ o b f. (b, objects o ∙ f);
        before = λ o b f. (b, sym (objects o) ∙ f);
        tops = top_none;
        idle = λ q. l.waits;
        entry = refl;
        temps = as_many_temps;
        slots = slots_many st v old (in_slot i) ∙ run.all_slots ∙ ap (λ (b : Entry). length b.env) e_is ∙ sym (length_put e w (whole k));
        long = let f = length_put e w (whole k) in omega (arith, f);
        thread = thread;
        others = λ j nh ns. key_other j x0 (refers m u) (E1 j) (ns i) ∙ key_other j hand (owns hole) (z.exact j) nh;
        stood = stood;
        hidden = λ d. hidden_put e w (whole k) d ∙ ap (λ (b : Entry). is_hidden (env_at b.env d)) (sym e_is) ∙ run.hidden d ∙ sym (held_same st v old (in_slot i) wr d);
        marked = mark_was st v old (in_slot i) wr;
        still = mark_same st v old (in_slot i) wr;
        content = λ b d c f lock. lock_with (parts (suc d)) lock;
        held = λ d c b r runs mark. two (z.marks d c) (mark_off z l.state d c b r hand at_two.state runs mark focused.thread.quiet) (mark_off z l.state d c b r x0 at_two.state runs mark unnamed);
        carried = carried;
      })

  -- the state with the variable written is typed
  pub turned : (a2 : PlainState Position) → Only l.state a2 n (record { place = record { entry = going (put_at e (record { slot = i; depth = 0 }) (whole k)) us g; temps = ws }; slots = with_slot l.running.slots i v }) → ((o : ObjNo) → a2.object o ≡ l.state.object o) → (y : Typing) × PositionTypes y a2 × (y.gives ≡ y0.gives) × ((j : Key) (b : Place) → y.exact j ≡ refers true b → ((y0.exact j ≡ refers true b) × (j ≢ slot_k n i)) ⊎ ((j ≡ slot_k n i) × (y0.exact (hand_at n us) ≡ refers true b)))
  turned a2 only objects = (_, turned_typed refs.0 refs.1 refs.2 a2 only objects, l.names, came)
    where
      came : (j : Key) (b : Place) → with_type (with_type z.exact (hand_at n us) (owns hole)) (slot_k n i) (refers refs.0 refs.1) j ≡ refers true b → ((y0.exact j ≡ refers true b) × (j ≢ slot_k n i)) ⊎ ((j ≡ slot_k n i) × (y0.exact (hand_at n us) ≡ refers true b))
      came j b e2 =
          let E1 = with_type z.exact (hand_at n us) (owns hole) in
          let p = refers refs.0 refs.1 in
          ⊎_elim (λ (q : j ≡ slot_k n i). inr (q, l.refs (hand_at n us) b (refs.2 ∙ sym (key_same (slot_k n i) p (E1 (slot_k n i))) ∙ ap (with_type E1 (slot_k n i) p) (sym q) ∙ e2)))
          (λ (q : j ≢ slot_k n i). inl (l.refs j b (none_owns z.exact (hand_at n us) hole j b (sym (key_other j (slot_k n i) p (E1 j) q) ∙ e2)), q)) (decide_key j (slot_k n i))

  -- and an owned value that stood there is none
  pub old_nothing : (b : Plain) → old ≡ Own b → b ≡ plain.Nothing
  old_nothing b o = by light
    where
      seen : s1.at x0 ≡ owned_val z.gives b
      seen = ap (slot_val temps_of z n i) l.at.runs ∙ seen_is temps_of z n i l.running ∙ ap (seen_as z.gives n (ref_v (z.marks n i))) (stands ∙ ap Some o)

      none : (b : Plain) → owned_val z.gives b ≡ gone_v → b ≡ plain.Nothing
      none plain.Nothing f = refl
      none plain.Unit f = cc
      none (plain.Int d) f = cc
      none (plain.Box d) f = cc
      none (plain.Mutex d) f = cc
      none (plain.Task d) f = cc

      no_ref : (b : Plain) (c : Location) → owned_val z.gives b ≡ ref_v c → ⊥
      no_ref plain.Nothing c f = cc
      no_ref plain.Unit c f = cc
      no_ref (plain.Int d) c f = cc
      no_ref (plain.Box d) c f = cc
      no_ref (plain.Mutex d) c f = cc
      no_ref (plain.Task d) c f = cc

      by : Light (z.exact x0) → b ≡ plain.Nothing
      by (inl f) = none b (sym seen ∙ top_fits z.rank z.exact s1 at_two.state.typed x0 hole f)
      by (inr f) = let r = ref_at z.rank z.exact s1 at_two.state.typed x0 f.0 f.1 f.2 in absurd (no_ref b r.target (sym seen ∙ r.is))
