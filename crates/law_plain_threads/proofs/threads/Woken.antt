-- Both threads of a pair have ended, and their parent goes on: the state is typed again.
use Rattle.std.proofs.Common.{◌≡◌, ◌≢◌, ◌⊎◌, inl, inr, ⊎_elim, ◌∙◌, ℕ, suc, ◌<◌, ◌≤◌, Bool, true, false, List, [], ◌∷◌, length, Some, None, refl, sym, ap, subst, arith}
use Rattle.std.specs.Prelude.{◌==◌, is_some}
use Rattle.fr_base.specs.declared.name.MutexNo.{MutexNo}
use Rattle.fr_typing.specs.Kinds.{Owned, unit, Kind}
use Rattle.fr_typing.specs.Places.{Env}
use Rattle.fr_typing.proofs.PlaceLemmas.{eq_cases}
use Rattle.fr_store.specs.Keys.{Key, slot_k, temp_k, content_k, result_k, hand_k}
use Rattle.fr_store.specs.Store.{Alike, Location, at_key, at_object, Val, gone_v, unit_v, task_v, Store, value_at, Place, put_value}
use Rattle.fr_store.specs.Typed.{hole, int_tree, owns, refers, KeyTypes, Typed, Unnamed}
use Rattle.fr_store.specs.Below.{tree_of}
use Rattle.fr_store.specs.Rows.{with_type}
use Rattle.fr_store.specs.Thread.{ThreadKeys, Asleep, OwnOrForeign}
use Rattle.fr_store.proofs.Keys.{key_other, decide_number}
use Rattle.fr_store.proofs.Chains.{decide_location}
use Rattle.fr_store.proofs.OtherThreads.{sleep_row, wake_row}
use Rattle.fr_store.proofs.Rows.{forget, same_store, top_fits, unnamed_with, put_other, put_there}
use Rattle.fr_store.proofs.ThreadKept.{known_tree}
use Rattle.fr_plain.specs.declared.value.Value.{Value}
use Rattle.fr_plain.specs.declared.value.Value.TheVariants.{Held}
use Rattle.fr_plain.specs.State.{slot_at}
use Rattle.fr_plain.specs.MachineThreads.{over, ended}
use Rattle.fr_plain.specs.PlainState.{Running, PlainState, place_in}
use Rattle.fr_sound.specs.Entries.{Entry, going, forked_at}
use Rattle.fr_sound.specs.Seen.{seen_cell}
use Rattle.fr_sound.specs.States.{Typing, RunningTyped, slot_val, temp_val, result_val, content_val, hand_key, hand_kind, operands, IsThread, env_at, is_hidden, IsLock, WaitsFor, WaitsAbove, directly, through, IsNear, IsKept, IsBranch, IsOwed, thread_of_key}
use Rattle.law_plain_values.specs.acts.Positions.{Position, Knows, temps_of, PositionTypes}
use Rattle.law_plain_values.proofs.acts.Lower.{seen_as, seen_is, decide_less}
use Rattle.law_plain_values.proofs.acts.OneThread.{store, typing_with, Counted, Carried, RunningCore, with_running, runs_still, kept_still, kept_before, none_ended, has_pair, same_by, other_by, differs_by}
use Rattle.law_plain_values.proofs.acts.Turns.{theirs, theirs_other, turns_typed}
use Rattle.law_plain_values.proofs.acts.Focus.{hole_there, temp_is, temp_none}
use Rattle.law_plain_values.proofs.acts.AtHand.{mark_off, result_same}
use Rattle.law_plain_values.proofs.acts.Stays.{Stays, there_by, mutexes_by, objects_by, owned_by, of_by, named_by}

-- nothing refers at the keys of a thread that doesn't go on
pub no_refs : (y : Typing) (a : PlainState Position) → PositionTypes y a → (u : ℕ) → place_in (a.thread u) ≡ None → (k : Key) (m : Bool) (w : Place) → y.exact k ≡ refers m w → thread_of_key k ≡ Some u → ⊥
no_refs y a st u none (slot_k v i) m w is e =
    let f : v ≡ u = cc in
    let g : owns hole ≡ refers m w = sym (hole_there y.rank y.exact (store y a) (slot_k u i) st.typed (ap (slot_val temps_of y u i) none)) ∙ ap (λ z. y.exact (slot_k z i)) (sym f) ∙ is in
    absurd cc
no_refs y a st u none (temp_k v i) m w is e =
    let f : v ≡ u = cc in
    let g : owns hole ≡ refers m w = sym (hole_there y.rank y.exact (store y a) (temp_k u i) st.typed (ap (temp_val temps_of y u i) none)) ∙ ap (λ z. y.exact (temp_k z i)) (sym f) ∙ is in
    absurd cc
no_refs y a st u none (content_k h c) m w is e = cc
no_refs y a st u none (result_k v) m w is e = cc
no_refs y a st u none (hand_k v) m w is e = let g : owns hole ≡ refers m w = sym (hole_there y.rank y.exact (store y a) (hand_k v) st.typed refl) ∙ is in absurd cc

same_two : {p q : ℕ × ℕ} → Some p ≡ Some q → p ≡ q
same_two e = cc

-- an operand that waits is no reference, nor is what is beyond the temporary values
pub hand_or : (t : ℕ) (ts : List Kind) (i : ℕ) → temp_k t i ≢ hand_key t ts → (i < operands ts) ⊎ (length ts ≤ i)
hand_or t [] i ne = inr (omega arith)
hand_or t (k ∷ ts) i ne = by (decide_less i (length ts))
  where
    by : (i < length ts) ⊎ (length ts ≤ i) → (i < length ts) ⊎ (suc (length ts) ≤ i)
    by (inl l) = inl l
    by (inr l) = inr (let off : i ≢ length ts = λ q. ne (ap (temp_k t) q) in omega (arith, l, off))

module _ (y : Typing) (a a2 : PlainState Position) (st : PositionTypes y a) (t b c : ℕ) (x : Running Position) (e : Env) (ts : List Kind) (g : Owned) (vb vc : Value) (runs : place_in (a.thread t) ≡ Some x) (entry : x.place.entry ≡ forked_at e ts g) (pair : a.pair t ≡ Some (b, c)) (was_b : a.thread b ≡ Some (ended vb)) (was_c : a.thread c ≡ Some (ended vc)) where
  abbrev x2 : Running Position
  x2 = record { place = record { entry = going e ts g; temps = x.place.temps }; slots = x.slots }

  abbrev E1 : KeyTypes
  E1 = with_type y.exact (result_k b) (owns hole)

  abbrev pub E2 : KeyTypes
  E2 = with_type (with_type y.exact (result_k b) (owns hole)) (result_k c) (owns hole)

  abbrev s1 : Store
  s1 = store y a

  abbrev s2 : Store
  s2 = store (typing_with y E2 y.marks) a2

  abbrev T : ℕ → Bool
  T w = w == t

  run : RunningTyped Knows temps_of y s1 t (a.pair t) x
  run = st.threads t x runs

  e_is : run.entry ≡ forked_at e ts g
  e_is = sym run.known ∙ entry

  waits_b : WaitsFor a t b
  waits_b = record { first = b; second = c; pair = pair; one = inl refl }

  waits_c : WaitsFor a t c
  waits_c = record { first = b; second = c; pair = pair; one = inr refl }

  -- it waits for these two
  one_of : (w : ℕ) → WaitsFor a t w → (w ≡ b) ⊎ (w ≡ c)
  one_of w h =
      let mine : ℕ × ℕ = (b, c) in
      let two : ℕ × ℕ = (h.first, h.second) in
      let f : mine ≡ two = same_two (sym pair ∙ h.pair) in
      let first : b ≡ h.first = ap (λ (z : ℕ × ℕ). z.0) f in
      let second : c ≡ h.second = ap (λ (z : ℕ × ℕ). z.1) f in
      ⊎_elim (λ (q : w ≡ h.first). inl (q ∙ sym first)) (λ (q : w ≡ h.second). inr (q ∙ sym second)) h.one

  stopped : (w : ℕ) → (w ≡ b) ⊎ (w ≡ c) → place_in (a.thread w) ≡ None
  stopped w (inl q) = ap (λ z. place_in (a.thread z)) q ∙ ap place_in was_b
  stopped w (inr q) = ap (λ z. place_in (a.thread z)) q ∙ ap place_in was_c

  -- these wait for nobody
  ends_there : (w v : ℕ) → (w ≡ b) ⊎ (w ≡ c) → WaitsAbove a w v → ⊥
  ends_there w v q h = let p = has_pair a w v h in let d = st.parents w p.0.0 p.0.1 p.1 in let f : None ≡ Some d.0 = sym (stopped w q) ∙ d.1 in cc

  above_is : (w : ℕ) → WaitsAbove a t w → (w ≡ b) ⊎ (w ≡ c)
  above_is w (directly h) = one_of w h
  above_is w (through {q = q} h r) = absurd (ends_there q w (one_of q h) r)

  -- no key that refers is one of these two's
  not_theirs : (k : Key) (m : Bool) (u : Place) (w : ℕ) → y.exact k ≡ refers m u → thread_of_key k ≡ Some w → (w ≡ b) ⊎ (w ≡ c) → ⊥
  not_theirs k m u w is of q = no_refs y a st w (stopped w q) k m u is of

  differ_b : b ≢ t
  differ_b q = let f : None ≡ Some x = sym (stopped b (inl refl)) ∙ ap (λ z. place_in (a.thread z)) q ∙ runs in cc

  differ_c : c ≢ t
  differ_c q = let f : None ≡ Some x = sym (stopped c (inr refl)) ∙ ap (λ z. place_in (a.thread z)) q ∙ runs in cc

  module _ (now : a2.thread t ≡ with_running (a.thread t) x2) (now_b : a2.thread b ≡ Some over) (now_c : a2.thread c ≡ Some over) (others : (w : ℕ) → w ≢ t → w ≢ b → w ≢ c → a2.thread w ≡ a.thread w) (free : a2.pair t ≡ None) (pairs : (w : ℕ) → w ≢ t → a2.pair w ≡ a.pair w) (stays : Stays a a2) where
    runs_two : place_in (a2.thread t) ≡ Some x2
    runs_two = ap place_in now ∙ runs_still (a.thread t) x x2 runs

    place_other : (w : ℕ) → w ≢ t → place_in (a2.thread w) ≡ place_in (a.thread w)
    place_other w nt =
        ⊎_elim (λ (q : w ≡ b). ap (λ z. place_in (a2.thread z)) q ∙ ap place_in now_b ∙ sym (stopped w (inl q)))
        (λ (nb : w ≢ b). ⊎_elim (λ (q : w ≡ c). ap (λ z. place_in (a2.thread z)) q ∙ ap place_in now_c ∙ sym (stopped w (inr q))) (λ (nc : w ≢ c). ap place_in (others w nt nb nc)) (decide_number w c)) (decide_number w b)

    -- WHO WAITS FOR WHOM

    waits_back : (p w : ℕ) → WaitsFor a2 p w → WaitsFor a p w
    waits_back p w h =
        let nt : p ≢ t = λ q. let two : ℕ × ℕ = (h.first, h.second) in let f : None ≡ Some two = sym free ∙ ap a2.pair (sym q) ∙ h.pair in cc in
        record { first = h.first; second = h.second; pair = sym (pairs p nt) ∙ h.pair; one = h.one }

    waits_keep : (p w : ℕ) → p ≢ t → WaitsFor a p w → WaitsFor a2 p w
    waits_keep p w nt h = record { first = h.first; second = h.second; pair = pairs p nt ∙ h.pair; one = h.one }

    above_keep : (p w : ℕ) → ((w ≡ b) ⊎ (w ≡ c) → ⊥) → WaitsAbove a p w → WaitsAbove a2 p w
    above_keep p w ne (directly h) = directly (waits_keep p w (λ q. ne (one_of w (subst (λ z. WaitsFor a z w) q h))) h)
    above_keep p w ne (through {q = v} h r) = through (waits_keep p v (λ q. ends_there v w (one_of v (subst (λ z. WaitsFor a z v) q h)) r) h) (above_keep v w ne r)

    -- WHAT STANDS

    unit_at : (w : ℕ) (v : Value) → a.thread w ≡ Some (ended v) → y.gives.result w ≡ unit → s1.at (result_k w) ≡ unit_v
    unit_at w v was gives = top_fits y.rank y.exact s1 st.typed (result_k w) (tree_of unit) (st.results w v was ∙ ap (λ z. owns (tree_of z)) gives)

    was_unit_b : s1.at (result_k b) ≡ unit_v
    was_unit_b = unit_at b vb was_b ((st.pairs t b c pair).1.gives)

    was_unit_c : s1.at (result_k c) ≡ unit_v
    was_unit_c = unit_at c vc was_c ((st.pairs t b c pair).2.gives)

    same : (l : Location) → l ≢ at_key (result_k b) → l ≢ at_key (result_k c) → value_at s2 l ≡ value_at s1 l
    same (at_object o) nb nc = ap (seen_cell y.gives) (stays.objects o)
    same (at_key k) nb nc = ap Some (by k nb nc)
      where
        by : (k : Key) → at_key k ≢ at_key (result_k b) → at_key k ≢ at_key (result_k c) → s2.at k ≡ s1.at k
        by (slot_k w i) nb nc =
            ⊎_elim (λ (q : w ≡ t). ap (λ z. s2.at (slot_k z i)) q ∙ ap (slot_val temps_of (typing_with y E2 y.marks) t i) runs_two ∙ seen_is temps_of (typing_with y E2 y.marks) t i x2 ∙ sym (seen_is temps_of y t i x) ∙ sym (ap (slot_val temps_of y t i) runs) ∙ ap (λ z. s1.at (slot_k z i)) (sym q))
            (λ (nt : w ≢ t). ap (slot_val temps_of y w i) (place_other w nt)) (decide_number w t)
        by (temp_k w i) nb nc =
            ⊎_elim (λ (q : w ≡ t). ap (λ z. s2.at (temp_k z i)) q ∙ ap (temp_val temps_of (typing_with y E2 y.marks) t i) runs_two ∙ temp_is (typing_with y E2 y.marks) t i x2 ∙ sym (temp_is y t i x) ∙ sym (ap (temp_val temps_of y t i) runs) ∙ ap (λ z. s1.at (temp_k z i)) (sym q))
            (λ (nt : w ≢ t). ap (temp_val temps_of y w i) (place_other w nt)) (decide_number w t)
        by (content_k m n) nb nc = ap (content_val y.gives) (stays.mutexes (record { home = m; count = n }))
        by (result_k w) nb nc =
            ⊎_elim (λ (q : w ≡ t). ap (λ z. s2.at (result_k z)) q ∙ ap (result_val temps_of y t) now ∙ result_same y t (a.thread t) x x2 runs ∙ ap (λ z. s1.at (result_k z)) (sym q))
            (λ (nt : w ≢ t). ap (result_val temps_of y w) (others w nt (λ q. nb (ap (λ z. at_key (result_k z)) q)) (λ q. nc (ap (λ z. at_key (result_k z)) q)))) (decide_number w t)
        by (hand_k w) nb nc = refl

    gone_b : s2.at (result_k b) ≡ gone_v
    gone_b = ap (result_val temps_of (typing_with y E2 y.marks) b) now_b

    gone_c : s2.at (result_k c) ≡ gone_v
    gone_c = ap (result_val temps_of (typing_with y E2 y.marks) c) now_c

    abbrev put_two : Store
    put_two = put_value (put_value s1 (at_key (result_k b)) gone_v) (at_key (result_k c)) gone_v

    alike : Alike put_two s2
    alike l =
        ⊎_elim (λ (q : l ≡ at_key (result_k c)). ap (value_at s2) q ∙ ap Some gone_c ∙ sym (put_there (put_value s1 (at_key (result_k b)) gone_v) (at_key (result_k c)) gone_v) ∙ ap (value_at put_two) (sym q))
        (λ (nc : l ≢ at_key (result_k c)). ⊎_elim
        (λ (q : l ≡ at_key (result_k b)). ap (value_at s2) q ∙ ap Some gone_b ∙ sym (put_there s1 (at_key (result_k b)) gone_v) ∙ ap (value_at (put_value s1 (at_key (result_k b)) gone_v)) (sym q) ∙ sym (put_other (put_value s1 (at_key (result_k b)) gone_v) (at_key (result_k c)) gone_v l nc))
        (λ (nb : l ≢ at_key (result_k b)). same l nb nc ∙ sym (put_other s1 (at_key (result_k b)) gone_v l nb) ∙ sym (put_other (put_value s1 (at_key (result_k b)) gone_v) (at_key (result_k c)) gone_v l nc))
        (decide_location l (at_key (result_k b)))) (decide_location l (at_key (result_k c)))

    -- TYPES

    unnamed_result : (w : ℕ) → Unnamed y.exact (result_k w)
    unnamed_result w j q u is z = let i = st.near j q u is in let l : slot_k i.owner i.slot ≡ result_k w = sym i.is ∙ z in cc

    typed : Typed y.rank E2 s2
    typed =
        same_store y.rank E2 E2 put_two s2
        (forget y.rank E1 (put_value s1 (at_key (result_k b)) gone_v) (result_k c) (forget y.rank y.exact s1 (result_k b) st.typed (unnamed_result b)) (unnamed_with y.exact (result_k b) hole (result_k c) (unnamed_result c))) (λ k. refl) alike

    off : (k : Key) → k ≢ result_k b → k ≢ result_k c → E2 k ≡ y.exact k
    off k nb nc = key_other k (result_k c) (owns hole) (E1 k) nc ∙ key_other k (result_k b) (owns hole) (y.exact k) nb

    refs : (k : Key) (q : Bool) (u : Place) → E2 k ≡ refers q u → y.exact k ≡ refers q u
    refs k q u z = known_tree (slot_k t) (temp_k t 0) y.exact (result_k b) hole k q u (known_tree (slot_k t) (temp_k t 0) E1 (result_k c) hole k q u z)

    other_keys : (k : Key) → theirs T k ≡ false → E2 k ≡ y.exact k
    other_keys k z = off k (λ q. let f : true ≡ false = sym (ap (theirs T) q) ∙ z in cc) (λ q. let f : true ≡ false = sym (ap (theirs T) q) ∙ z in cc)

    near : (k : Key) (m : Bool) (u : Place) → E2 k ≡ refers m u → IsNear a2 k u
    near k m u is =
        let n = st.near k m u (refs k m u is) in
        record {
          thread = n.thread;
          of = n.of;
          owner = n.owner;
          slot = n.slot;
          is = n.is;
          near = ⊎_elim (λ (q : n.owner ≡ n.thread). inl q) (λ (q : WaitsAbove a n.owner n.thread). inr (above_keep n.owner n.thread (not_theirs k m u n.thread (refs k m u is) n.of) q)) n.near;
        }

    -- a slot of the parent is named by its own keys alone
    own_named : (k : Key) (m : Bool) (u : Place) (i : ℕ) → y.exact k ≡ refers m u → u.key ≡ slot_k t i → thread_of_key k ≡ Some t
    own_named k m u i is z =
        let n = st.near k m u is in
        let owner : n.owner ≡ t = let f : slot_k n.owner n.slot ≡ slot_k t i = sym n.is ∙ z in cc in
        ⊎_elim (λ (q : n.owner ≡ n.thread). n.of ∙ ap Some (sym q ∙ owner)) (λ (q : WaitsAbove a n.owner n.thread). absurd (not_theirs k m u n.thread is n.of (above_is n.thread (subst (λ w. WaitsAbove a w n.thread) owner q)))) n.near

    nobody : (k : Key) (m : Bool) (u : Place) → theirs T k ≡ false → y.exact k ≡ refers m u → theirs T u.key ≡ false
    nobody k m u z is =
        let n = st.near k m u is in
        ap (theirs T) n.is ∙ differs_by n.owner t (λ q. let f : T t ≡ false = theirs_other T k t z (own_named k m u n.slot is (n.is ∙ ap (λ w. slot_k w n.slot) q)) in let s : true ≡ false = sym self ∙ f in cc)
      where
        self : T t ≡ true
        self = eq_cases (λ d. d ≡ true) t t (λ q. refl) (λ ne. absurd (ne refl))

    -- THE PARENT

    asleep : Asleep (slot_k t) y.rank (hand_key t ts) e y.exact (hand_kind ts)
    asleep = subst (λ (z : Entry). IsThread z.forked (slot_k t) y.rank (hand_key t z.temps) z.env y.exact s1 (hand_kind z.temps)) e_is run.thread

    hand_is_temp : (rs : List Kind) (j : Key) (m : Bool) (u : Place) → y.exact j ≡ refers m u → u.key ≢ hand_key t rs
    hand_is_temp [] j m u is z = let n = st.near j m u is in let f : slot_k n.owner n.slot ≡ temp_k t 0 = sym n.is ∙ z in cc
    hand_is_temp (k ∷ rs) j m u is z = let n = st.near j m u is in let f : slot_k n.owner n.slot ≡ temp_k t (length rs) = sym n.is ∙ z in cc

    still_asleep : Asleep (slot_k t) y.rank (hand_key t ts) e E2 (hand_kind ts)
    still_asleep =
        sleep_row (slot_k t) y.rank (hand_key t ts) e y.exact E2 (hand_kind ts) is_result asleep but (λ i. refl) (hand_not ts) (λ j m u z is. hand_is_temp ts j m u (refs j m u is)) (λ j m u z is. let n = st.near j m u is in ap is_result n.is)
      where
        is_result : Key → Bool
        is_result (result_k w) = true
        is_result k = false

        but : (j : Key) → is_result j ≡ false → E2 j ≡ y.exact j
        but j z = off j (λ q. let f : true ≡ false = sym (ap is_result q) ∙ z in cc) (λ q. let f : true ≡ false = sym (ap is_result q) ∙ z in cc)

        hand_not : (rs : List Kind) → is_result (hand_key t rs) ≡ false
        hand_not [] = refl
        hand_not (k ∷ rs) = refl

    waits_are : (i : ℕ) → i < operands ts → y.exact (temp_k t i) ≡ owns int_tree
    waits_are = subst (λ (z : Entry). (i : ℕ) → i < operands z.temps → y.exact (temp_k t i) ≡ owns int_tree) e_is run.waiting

    many : length x.place.temps ≡ length ts
    many = run.all_temps ∙ ap (λ (z : Entry). length z.temps) e_is

    beyond : (i : ℕ) → length ts ≤ i → y.exact (temp_k t i) ≡ owns hole
    beyond i le = hole_there y.rank y.exact s1 (temp_k t i) st.typed (ap (temp_val temps_of y t i) runs ∙ temp_is y t i x ∙ ap (seen_as y.gives t gone_v) (temp_none x.place.temps i (omega (arith, le, many))))

    alone : (j : Key) (m : Bool) (u : Place) → E2 j ≡ refers m u → j ≢ hand_key t ts → OwnOrForeign (slot_k t) e j u
    alone j m u is ne = ⊎_elim (λ (z : n.owner ≡ t). inl (own j (refs j m u is) (own_named j m u n.slot (refs j m u is) (n.is ∙ ap (λ w. slot_k w n.slot) z)) ne)) (λ (z : n.owner ≢ t). inr (λ i q. let f : slot_k n.owner n.slot ≡ slot_k t i = sym n.is ∙ q in let r : n.owner ≡ t = cc in z r)) (decide_number n.owner t)
      where
        n : IsNear a j u
        n = st.near j m u (refs j m u is)

        own : (j : Key) → y.exact j ≡ refers m u → thread_of_key j ≡ Some t → j ≢ hand_key t ts → (i : ℕ) × (i < length e) × (j ≡ slot_k t i)
        own (slot_k w i) is of ne =
            let q : w ≡ t = cc in
            ⊎_elim (λ (l : i < length e). (i, l, ap (λ z. slot_k z i) q)) (λ (l : length e ≤ i). let f : owns hole ≡ refers m u = sym (asleep.above i l) ∙ ap (λ z. y.exact (slot_k z i)) (sym q) ∙ is in absurd cc) (decide_less i (length e))
        own (temp_k w i) is of ne =
            let q : w ≡ t = cc in
            ⊎_elim (λ (l : i < operands ts). let f : owns int_tree ≡ refers m u = sym (waits_are i l) ∙ ap (λ z. y.exact (temp_k z i)) (sym q) ∙ is in absurd cc)
            (λ (l : length ts ≤ i). let f : owns hole ≡ refers m u = sym (beyond i l) ∙ ap (λ z. y.exact (temp_k z i)) (sym q) ∙ is in absurd cc) (hand_or t ts i (λ z. ne (ap (λ v. temp_k v i) q ∙ z)))
        own (content_k h d) is of ne = cc
        own (result_k w) is of ne = cc
        own (hand_k w) is of ne = let f : owns hole ≡ refers m u = sym (hole_there y.rank y.exact s1 (hand_k w) st.typed refl) ∙ is in absurd cc

    held : (w i : ℕ) (m : MutexNo) (z : Running Position) → place_in (a.thread w) ≡ Some z → slot_at z.slots i ≡ Some (Held m) → value_at s2 (y.marks w i) ≡ value_at s1 (y.marks w i)
    held w i m z r f = same (y.marks w i) (mark_off y a w i m z (result_k b) st r f (unnamed_result b)) (mark_off y a w i m z (result_k c) st r f (unnamed_result c))

    core : RunningCore (typing_with y E2 y.marks) s2 t (a2.pair t) x2
    core = record {
      entry = going e ts g;
      known = refl;
      gives = ap (λ (z : Entry). z.gives) (sym e_is) ∙ run.gives;
      keys = subst (λ (z : Entry). ThreadKeys (slot_k t) y.rank (hand_key t z.temps)) e_is run.keys;
      thread = (wake_row (slot_k t) y.rank (hand_key t ts) e E2 s2 (hand_kind ts) typed alone).1 still_asleep;
      waiting = λ i l. off (temp_k t i) (λ q. cc) (λ q. cc) ∙ waits_are i l;
      all_slots = run.all_slots ∙ ap (λ (z : Entry). length z.env) e_is;
      all_temps = many;
      forks = ap is_some (sym free);
      hidden = λ i. ap (λ (z : Entry). is_hidden (env_at z.env i)) (sym e_is) ∙ run.hidden i;
      marked = λ i m z. let lock = subst (λ (r : Entry). IsLock y s1 r.env t i m) e_is (run.marked i m z) in record { leads = held t i m x runs z ∙ lock.leads; unnamed = λ j d u r. lock.unnamed j d u (refs j d u r); content = lock.content };
    }

    -- WHO IS KEPT

    kept_to : (w : ℕ) → ((w ≡ b) ⊎ (w ≡ c) → ⊥) → IsKept (a.thread w) → IsKept (a2.thread w)
    kept_to w ne z =
        ⊎_elim (λ (q : w ≡ t). subst (λ n. IsKept (a2.thread n)) (sym q) (subst IsKept (sym now) (kept_still (a.thread t) x2 (subst (λ n. IsKept (a.thread n)) q z))))
        (λ (nt : w ≢ t). subst IsKept (sym (others w nt (λ q. ne (inl q)) (λ q. ne (inr q)))) z) (decide_number w t)

    not_over : (w : ℕ) → IsKept (a2.thread w) → (w ≡ b) ⊎ (w ≡ c) → ⊥
    not_over w z (inl q) = subst IsKept (ap a2.thread q ∙ now_b) z
    not_over w z (inr q) = subst IsKept (ap a2.thread q ∙ now_c) z

    kept_back : (w : ℕ) → IsKept (a2.thread w) → IsKept (a.thread w)
    kept_back w z =
        ⊎_elim (λ (q : w ≡ t). subst (λ n. IsKept (a.thread n)) (sym q) (kept_before (a.thread t) x2 (subst IsKept now (subst (λ n. IsKept (a2.thread n)) q z))))
        (λ (nt : w ≢ t). subst IsKept (others w nt (λ q. not_over w z (inl q)) (λ q. not_over w z (inr q))) z) (decide_number w t)

    -- a branch of another one is none of the two
    branch : (p w : ℕ) → p ≢ t → WaitsFor a p w → IsBranch y a p w → IsBranch y a2 p w
    branch p w nt h d = record { kept = kept_to w none d.kept; gives = d.gives; only = λ q r. d.only q (waits_back q w r); below = d.below }
      where
        none : (w ≡ b) ⊎ (w ≡ c) → ⊥
        none (inl q) = nt (sym (d.only t (subst (WaitsFor a t) (sym q) waits_b)))
        none (inr q) = nt (sym (d.only t (subst (WaitsFor a t) (sym q) waits_c)))

    branches : (p f d : ℕ) → a2.pair p ≡ Some (f, d) → (f ≢ d) × IsBranch y a2 p f × IsBranch y a2 p d
    branches p f d z =
        let nt : p ≢ t = λ q. let two : ℕ × ℕ = (f, d) in let n : None ≡ Some two = sym free ∙ ap a2.pair (sym q) ∙ z in cc in
        let i = sym (pairs p nt) ∙ z in
        let k = st.pairs p f d i in
        (k.0, branch p f nt (record { first = f; second = d; pair = i; one = inl refl }) k.1, branch p d nt (record { first = f; second = d; pair = i; one = inr refl }) k.2)

    parents : (p f d : ℕ) → a2.pair p ≡ Some (f, d) → (w : Running Position) × (place_in (a2.thread p) ≡ Some w)
    parents p f d z =
        let nt : p ≢ t = λ q. let two : ℕ × ℕ = (f, d) in let n : None ≡ Some two = sym free ∙ ap a2.pair (sym q) ∙ z in cc in
        let k = st.parents p f d (sym (pairs p nt) ∙ z) in
        (k.0, place_other p nt ∙ k.1)

    owed_to : (w : ℕ) → IsOwed a w → IsOwed a2 w
    owed_to w d = record { free = λ p r. d.free p (waits_back p w r); kept = kept_to w none d.kept }
      where
        none : (w ≡ b) ⊎ (w ≡ c) → ⊥
        none (inl q) = d.free t (subst (WaitsFor a t) (sym q) waits_b)
        none (inr q) = d.free t (subst (WaitsFor a t) (sym q) waits_c)

    owed_back : (w : ℕ) → IsOwed a2 w → IsOwed a w
    owed_back w d = record { free = λ p r. ⊎_elim (λ (q : p ≡ t). not_over w d.kept (one_of w (subst (λ z. WaitsFor a z w) q r))) (λ (nt : p ≢ t). d.free p (waits_keep p w nt r)) (decide_number p t); kept = kept_back w d.kept }

    results : (w : ℕ) (r : Value) → a2.thread w ≡ Some (ended r) → E2 (result_k w) ≡ owns (tree_of (y.gives.result w))
    results w r z =
        ⊎_elim (λ (q : w ≡ t). absurd (none_ended (a.thread t) x x2 r runs (sym now ∙ ap a2.thread (sym q) ∙ z)))
        (λ (nt : w ≢ t). ⊎_elim (λ (q : w ≡ b). let f : Some over ≡ Some (ended r) = sym now_b ∙ ap a2.thread (sym q) ∙ z in absurd cc)
        (λ (nb : w ≢ b). ⊎_elim (λ (q : w ≡ c). let f : Some over ≡ Some (ended r) = sym now_c ∙ ap a2.thread (sym q) ∙ z in absurd cc)
        (λ (nc : w ≢ c). off (result_k w) (λ q. let f : w ≡ b = cc in nb f) (λ q. let f : w ≡ c = cc in nc f) ∙ st.results w r (sym (others w nt nb nc) ∙ z)) (decide_number w c)) (decide_number w b)) (decide_number w t)

    -- no counted value went
    not_unit : (v : Val) → Counted v → v ≡ unit_v → ⊥
    not_unit v i q = subst Counted q i

    not_gone : (v : Val) → Counted v → v ≡ gone_v → ⊥
    not_gone v i q = subst Counted q i

    carried : Carried s1 s2
    carried = record { to = λ l. l; from = λ l. l; from_to = λ l. refl; to_from = λ l. refl; there = there; back = back }
      where
        there : (l : Location) (v : Val) → Counted v → value_at s1 l ≡ Some v → value_at s2 l ≡ Some v
        there l v i z =
            ⊎_elim (λ (q : l ≡ at_key (result_k b)). let f : Some v ≡ Some unit_v = sym z ∙ ap (value_at s1) q ∙ ap Some was_unit_b in absurd (not_unit v i cc))
            (λ (nb : l ≢ at_key (result_k b)). ⊎_elim (λ (q : l ≡ at_key (result_k c)). let f : Some v ≡ Some unit_v = sym z ∙ ap (value_at s1) q ∙ ap Some was_unit_c in absurd (not_unit v i cc)) (λ (nc : l ≢ at_key (result_k c)). same l nb nc ∙ z) (decide_location l (at_key (result_k c)))) (decide_location l (at_key (result_k b)))

        back : (l : Location) (v : Val) → Counted v → value_at s2 l ≡ Some v → value_at s1 l ≡ Some v
        back l v i z =
            ⊎_elim (λ (q : l ≡ at_key (result_k b)). let f : Some v ≡ Some gone_v = sym z ∙ ap (value_at s2) q ∙ ap Some gone_b in absurd (not_gone v i cc))
            (λ (nb : l ≢ at_key (result_k b)). ⊎_elim (λ (q : l ≡ at_key (result_k c)). let f : Some v ≡ Some gone_v = sym z ∙ ap (value_at s2) q ∙ ap Some gone_c in absurd (not_gone v i cc)) (λ (nc : l ≢ at_key (result_k c)). sym (same l nb nc) ∙ z) (decide_location l (at_key (result_k c)))) (decide_location l (at_key (result_k b)))

    mine : (w : ℕ) (z : Running Position) → w ≡ t → place_in (a2.thread w) ≡ Some z → RunningCore (typing_with y E2 y.marks) s2 w (a2.pair w) z
    mine w z q i =
        let f : Some x2 ≡ Some z = sym runs_two ∙ ap (λ n. place_in (a2.thread n)) (sym q) ∙ i in
        let is : x2 ≡ z = cc in
        subst (λ n. RunningCore (typing_with y E2 y.marks) s2 n (a2.pair n) z) (sym q) (subst (λ n. RunningCore (typing_with y E2 y.marks) s2 t (a2.pair t) n) is core)

    pub woken_typed : PositionTypes (typing_with y E2 y.marks) a2
    unfolding carried
    woken_typed = turns_typed st (record {
      typed = typed;
      mine = λ w z q i. mine w z (same_by w t q) i;
      others = λ w z q i. sym (place_other w (other_by w t q)) ∙ i;
      pairs = λ w q. pairs w (other_by w t q);
      same = other_keys;
      of = of_by y a a2 T E2 st refs;
      near = near;
      named = named_by y a a2 T E2 st refs;
      nobody = nobody;
      marks = λ w i q. refl;
      held = λ w i m z q r f. held w i m z r f;
      results = results;
      branches = branches;
      parents = parents;
      there = there_by y a a2 E2 Counted st stays carried (λ m q. tt);
      mutexes = mutexes_by y a a2 E2 Counted st stays carried (λ m q. tt) (λ m. off (content_k m.home m.count) (λ q. cc) (λ q. cc));
      one_task = λ l m w p q i j. st.one_task l m w p q (carried.back l (task_v w p) tt i) (carried.back m (task_v w q) tt j);
      tasks_owed = λ l w r z. owed_to w (st.tasks_owed l w r (carried.back l (task_v w r) tt z));
      owed_stand = λ w d. let f = st.owed_stand w (owed_back w d) in (f.0, f.1, carried.there f.0 (task_v w f.1) tt f.2);
      objects_there = objects_by y a a2 E2 Counted st stays carried (λ o. tt);
      objects_owned = owned_by y a a2 E2 Counted st stays carried (λ o. tt);
      objects_made = stays.made;
    })
