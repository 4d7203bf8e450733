-- An unlock keeps a state typed.
use Rattle.std.proofs.Common.{◌≡◌, ◌≢◌, ◌⊎◌, inl, inr, ⊎_elim, ◌∙◌, ap₂, ℕ, zero, suc, ◌<◌, ◌≤◌, Bool, true, false, List, [], ◌∷◌, length, Option, Some, None, refl, sym, ap, subst, arith}
use Rattle.std.specs.List.{list_all}
use Rattle.fr_base.specs.declared.label.Plain.{Plain}
use Rattle.fr_base.specs.declared.label.Label.TheVariants as label
use Rattle.fr_base.specs.declared.name.ObjNo.{ObjNo}
use Rattle.fr_base.specs.declared.name.MutexNo.{MutexNo}
use Rattle.fr_base.specs.declared.place.Lval.{Lval}
use Rattle.fr_base.specs.declared.step.Fresh.TheVariants as fresh
use Rattle.fr_terms.specs.Terms.{Text}
use Rattle.fr_typing.specs.Kinds.{Owned, Kind, own, shared, mutable, view, whole}
use Rattle.fr_typing.specs.Places.{Env, Slot}
use Rattle.fr_typing.specs.Checks.{with_lock, is_owned}
use Rattle.fr_store.specs.Keys.{Key, slot_k, temp_k, content_k}
use Rattle.fr_store.specs.Store.{Alike, Location, at_key, at_object, Val, box_v, task_v, gone_v, ref_v, Store, value_at, Place, put_value, swap}
use Rattle.fr_store.specs.Changes.{SameButTwo}
use Rattle.fr_store.specs.Typed.{hole, owns, refers, KeyTypes, TopFits, Typed, Unnamed}
use Rattle.fr_store.specs.Below.{tree_of, ExactOf}
use Rattle.fr_store.specs.Rows.{with_type}
use Rattle.fr_store.specs.Thread.{ThreadTyped, TempIs, temp_places}
use Rattle.fr_store.proofs.Keys.{key_same, key_other, decide_number}
use Rattle.fr_store.proofs.Chains.{decide_location}
use Rattle.fr_store.proofs.Rows.{forget, swap_own, same_store, top_fits, unnamed_with, put_there, put_other}
use Rattle.fr_store.proofs.ThreadKept.{exact_owned, known_tree, last_unnamed, slots_with}
use Rattle.fr_plain.specs.declared.value.Value.{Value}
use Rattle.fr_plain.specs.declared.value.Value.TheVariants.{Own, ToSlot, ToObject, Held}
use Rattle.fr_plain.specs.MachineActs.{do_unlock, unit as unit_value}
use Rattle.fr_plain.specs.State.{slot_at}
use Rattle.fr_plain.specs.MachineThreads.{Now, Move, Life, Thread, Whole as Machine, Shared, with_thread, with_mutex}
use Rattle.fr_plain.specs.Machine.{nameless, unlocked, given_back, goes_on}
use Rattle.fr_plain.specs.PlainState.{Running, PlainState, place_in, plain_state}
use Rattle.fr_sound.specs.Entries.{Entry, going}
use Rattle.fr_sound.specs.Seen.{val_of, owned_val, seen_cell}
use Rattle.fr_sound.specs.States.{Typing, RunningTyped, content_val, env_at, part_of, is_hidden, is_held, IsLock, thread_of_key, IsMark, HasOneMark, MutexTyped}
use Rattle.fr_sound.proofs.Hand.{fits_owned}
use Rattle.fr_code.specs.CodeTypes.{wait}
use Rattle.law_plain_values.specs.acts.Positions.{Position, Knows, temps_of, PositionTypes, moves_by, StartsAs}
use Rattle.law_plain_values.specs.acts.ActRows.{Leaves, quiet, left_after, ActRow, r_unlock}
use Rattle.law_plain_values.specs.acts.Keeps.{Ready, StepsTyped, Keeps}
use Rattle.law_plain_values.proofs.acts.Lower.{seen_as}
use Rattle.law_plain_values.proofs.acts.OneThread.{store, typing_with, touched, other_by, runs_still, Carried, Counted, share_back, as_many}
use Rattle.law_plain_values.proofs.acts.Raised.{raised, raised_typing}
use Rattle.law_plain_values.proofs.acts.Marks.{mark_back, one_mark_to}
use Rattle.law_plain_values.proofs.acts.Moved.{flip, flip_first, flip_second, flip_third, flip_twice}
use Rattle.law_plain_values.proofs.acts.Focus.{Tops, top_none, top_some, hand_at, Focus, focus, temp_none, hole_there}
use Rattle.law_plain_values.proofs.acts.AtHand.{mark_off}
use Rattle.law_plain_values.proofs.acts.Hand.{At, room, pushed_others, pushed_here}
use Rattle.law_plain_values.proofs.acts.Refs.{none_owns}
use Rattle.law_plain_values.proofs.acts.Done.{runs_here, only_here}
use Rattle.law_plain_values.proofs.acts.Places.{seen_val_of}
use Rattle.law_plain_values.proofs.acts.Rethread.{rethread}
use Rattle.law_plain_values.proofs.acts.SlotTurn.{alike_swap}
use Rattle.law_plain_values.proofs.acts.Slots.{below_new, here_new, slot_below, owned_in, lock_with, content_there}
use Rattle.law_plain_values.proofs.acts.Sums.{Lone, slot_before, keys_same, Base, Sums, turned}
use Rattle.law_plain_threads.specs.mutexes.MutexActs.{IsUnlocking}
use Rattle.law_plain_values.proofs.acts.Mutexes.{decide_mutex, mutex_is, there_set, there_off, given_set}
use Rattle.law_plain_values.proofs.acts.Done.{step_by}

-- TEMPORARY VALUES THAT STAY

-- the temporary values are those that wait and one at hand, or none at all; the one at hand owns
record Stay (ts : List Kind) : Type 0 where
  us : List Kind
  o : Option Kind
  tops : Tops us o ts
  idle : o ≡ None → wait us ≡ true
  owned : (o ≡ None) ⊎ ((q : Owned) × (o ≡ Some (own q)))

stay : (ts : List Kind) → list_all is_owned ts ≡ true → Stay ts
stay [] h = record { us = []; o = None; tops = top_none; idle = λ q. refl; owned = inl refl }
stay (own q ∷ us) h = record { us = us; o = Some (own q); tops = top_some; idle = λ i. cc; owned = inr (q, refl) }
stay (shared vs ∷ us) h = cc
stay (mutable vs ∷ us) h = cc
stay (view q ∷ us) h = cc

-- THE STATE

module _ (s : Machine Position) (t : Thread Position) (p : Position) (e : Env) (ts us : List Kind) (o : Option Kind) (g x : Owned) (w : Lval) (name : Text) (y : Typing) (at : At y (plain_state s) t.number (record { place = p; slots = t.slots }) (with_lock e w name x) ts g) (fc : Focus y (plain_state s) t.number (with_lock e w name x) us o) (tops : Tops us o ts) (idle : o ≡ None → wait us ≡ true) (owned : (o ≡ None) ⊎ ((q : Owned) × (o ≡ Some (own q))))
    (v : Plain) (m : MutexNo) (rest : List Value) (slots_are : t.slots ≡ Own v ∷ Held m ∷ rest) (f : Shared) (there : (plain_state s).mutex m ≡ Some f) (outside : f.content ≡ None) (a2 : PlainState Position) where
  abbrev h : Key
  h = hand_at t.number us

  abbrev b : Key
  b = slot_k t.number (length e)

  abbrev c : Key
  c = slot_k t.number (suc (length e))

  abbrev k : Key
  k = content_k m.home m.count

  abbrev e0 : Env
  e0 = with_lock e w name x

  abbrev x1 : Running Position
  x1 = record { place = p; slots = t.slots }

  abbrev x2 : Running Position
  x2 = record { place = record { entry = going e ts g; temps = p.temps }; slots = rest }

  abbrev E1 : KeyTypes
  E1 = with_type y.exact (slot_k t.number (length e)) (owns hole)

  abbrev E2 : KeyTypes
  E2 = with_type (with_type (with_type y.exact (slot_k t.number (length e)) (owns hole)) (slot_k t.number (suc (length e))) (owns hole)) (content_k m.home m.count) (owns (tree_of x))

  abbrev s1 : Store
  s1 = store y (plain_state s)

  abbrev sm : Store
  sm = put_value s1 (at_key b) gone_v

  abbrev s2 : Store
  s2 = store (typing_with y E2 y.marks) a2

  -- its content is in
  abbrev back : Shared
  back = record { content = Some v; shares = f.shares }

  run : RunningTyped Knows temps_of y s1 t.number ((plain_state s).pair t.number) x1
  run = at.state.threads t.number x1 at.runs

  e_is : run.entry ≡ going e0 ts g
  e_is = sym run.known ∙ at.entry

  long : length rest ≡ length e
  long = let i = ap length (sym slots_are) ∙ run.all_slots ∙ ap (λ (z : Entry). length z.env) e_is in omega (arith, i)

  slot_mark : slot_at t.slots (length e) ≡ Some (Held m)
  slot_mark = ap (λ z. slot_at z (length e)) slots_are ∙ pushed_others (Own v) (Held m ∷ rest) (length e) (suc (length e)) (ap suc (sym long)) (λ z. omega (arith, z)) ∙ pushed_here (Held m) rest (length e) (sym long)

  slot_content : slot_at t.slots (suc (length e)) ≡ Some (Own v)
  slot_content = ap (λ z. slot_at z (suc (length e))) slots_are ∙ pushed_here (Own v) (Held m ∷ rest) (suc (length e)) (ap suc (sym long))

  slot_same : (i : ℕ) → i ≢ length e → i ≢ suc (length e) → slot_at rest i ≡ slot_at t.slots i
  slot_same i nb nc = sym (ap (λ z. slot_at z i) slots_are ∙ pushed_others (Own v) (Held m ∷ rest) i (suc (length e)) (ap suc (sym long)) nc ∙ pushed_others (Held m) rest i (length e) (sym long) nb)

  lock : IsLock y s1 e0 t.number (length e) m
  lock = subst (λ (z : Entry). IsLock y s1 z.env t.number (length e) m) e_is (run.marked (length e) m slot_mark)

  d : MutexTyped y (plain_state s) s1 m f
  d = at.state.mutexes m f there

  mark : IsMark (plain_state s) m t.number (length e)
  mark = record { thread = x1; goes_on = at.runs; mark = slot_mark }

  content_is : x ≡ y.gives.mutex m
  content_is = let q : Some x ≡ Some (y.gives.mutex m) = sym (ap (λ z. owned_in (part_of z)) (here_new (record { name = Some name; part = whole (own x) }) (record { name = None; part = whole (shared (w ∷ [])) } ∷ e) (suc (length e)) refl)) ∙ lock.content in cc

  full : y.exact c ≡ owns (tree_of x)
  full = exact_owned (slot_k t.number) y.exact x (y.exact c) fc.thread.slots.0

  empty_places : (n : ℕ) → Rattle.fr_typing.specs.Places.AreBelow n (temp_places o)
  empty_places n = by owned
    where
      by : (o ≡ None) ⊎ ((q : Owned) × (o ≡ Some (own q))) → Rattle.fr_typing.specs.Places.AreBelow n (temp_places o)
      by (inl z) = subst (λ q. Rattle.fr_typing.specs.Places.AreBelow n (temp_places q)) (sym z) tt
      by (inr z) = subst (λ q. Rattle.fr_typing.specs.Places.AreBelow n (temp_places q)) (sym z.1) tt

  free_c : Unnamed y.exact c
  free_c = last_unnamed (slot_k t.number) y.rank h e0 y.exact s1 o zero (suc (length e)) fc.keys fc.thread (empty_places zero) (omega arith) (omega arith)

  free_b : Unnamed y.exact b
  free_b = lock.unnamed

  free_k : Unnamed y.exact k
  free_k j n u q z = let i = at.state.near j n u q in let l : slot_k i.owner i.slot ≡ k = sym i.is ∙ z in cc

  was_k : s1.at k ≡ gone_v
  was_k = ap (content_val y.gives) there ∙ ap (λ z. content_val y.gives (Some (record { content = z; shares = f.shares }))) outside

  hole_k : y.exact k ≡ owns hole
  hole_k = hole_there y.rank y.exact s1 k at.state.typed was_k

  module _ (lone : Lone (plain_state s) a2 t.number x2) (objects : (q : ObjNo) → a2.object q ≡ (plain_state s).object q) (made : (u : ℕ) → (plain_state s).made u ≤ a2.made u) (now_in : a2.mutex m ≡ Some back) (others : (n : MutexNo) → n ≢ m → a2.mutex n ≡ (plain_state s).mutex n) (given : (n : MutexNo) → a2.is_given n ≡ (plain_state s).is_given n) where
    abbrev Off : Key → Type 0
    Off j = (j ≢ b) × (j ≢ c) × (j ≢ k)

    bc : b ≢ c
    bc q = let i : length e ≡ suc (length e) = cc in omega (arith, i)

    three : (j : Key) → Off j → s2.at j ≡ s1.at j
    three = keys_same y (plain_state s) a2 t.number x1 x2 E2 y.marks at.runs lone (λ u i q. refl) Off
        (λ i q. ap (seen_as y.gives t.number (ref_v (y.marks t.number i))) (slot_same i (λ z. q.0 (ap (slot_k t.number) z)) (λ z. q.1 (ap (slot_k t.number) z))))
        (λ i q. refl)
        (λ hm cn q. ap (content_val y.gives) (others (record { home = hm; count = cn }) (λ z. q.2 (ap (λ (n : MutexNo). content_k n.home n.count) z))))

    gone_slot : (i : ℕ) → length e ≤ i → s2.at (slot_k t.number i) ≡ gone_v
    gone_slot i le = Rattle.law_plain_values.proofs.acts.Sums.slot_after y (plain_state s) a2 t.number x1 x2 E2 y.marks at.runs lone (λ u j q. refl) i ∙ ap (seen_as y.gives t.number (ref_v (y.marks t.number i))) (temp_none rest i (omega (arith, le, long)))

    at_b : s2.at b ≡ gone_v
    at_b = gone_slot (length e) (omega arith)

    at_c : s2.at c ≡ gone_v
    at_c = gone_slot (suc (length e)) (omega arith)

    at_k : s2.at k ≡ owned_val y.gives v
    at_k = ap (content_val y.gives) now_in

    was_c : s1.at c ≡ owned_val y.gives v
    was_c = slot_before y (plain_state s) a2 t.number x1 x2 E2 y.marks at.runs lone (λ u j q. refl) (suc (length e)) ∙ ap (seen_as y.gives t.number (ref_v (y.marks t.number (suc (length e))))) slot_content

    was_b : s1.at b ≡ ref_v (y.marks t.number (length e))
    was_b = slot_before y (plain_state s) a2 t.number x1 x2 E2 y.marks at.runs lone (λ u j q. refl) (length e) ∙ ap (seen_as y.gives t.number (ref_v (y.marks t.number (length e)))) slot_mark

    everywhere : (q : Location) → q ≢ at_key b → q ≢ at_key c → q ≢ at_key k → value_at s2 q ≡ value_at s1 q
    everywhere (at_object q) nb nc nk = ap (seen_cell y.gives) (objects q)
    everywhere (at_key j) nb nc nk = ap Some (three j ((λ z. nb (ap at_key z)), (λ z. nc (ap at_key z)), (λ z. nk (ap at_key z))))

    two : SameButTwo (at_key k) (at_key c) sm s2
    two q nk nc = ⊎_elim (λ (z : q ≡ at_key b). ap (value_at s2) z ∙ ap Some at_b ∙ sym (put_there s1 (at_key b) gone_v) ∙ ap (value_at sm) (sym z)) (λ (z : q ≢ at_key b). everywhere q z nc nk ∙ sym (put_other s1 (at_key b) gone_v q z)) (decide_location q (at_key b))

    sm_k : sm.at k ≡ gone_v
    sm_k = let z : Some (sm.at k) ≡ Some (s1.at k) = put_other s1 (at_key b) gone_v (at_key k) (λ q. cc) in let i : sm.at k ≡ s1.at k = cc in i ∙ was_k

    alike : Alike (swap sm k (at_key c)) s2
    alike = alike_swap sm s2 k (at_key c) (owned_val y.gives v) (λ q. cc) (put_other s1 (at_key b) gone_v (at_key c) (λ q. bc (let i : c ≡ b = cc in sym i)) ∙ ap Some was_c) two (ap Some (at_c ∙ sym sm_k)) at_k

    -- TYPES

    off_one : (j : Key) → j ≢ b → E1 j ≡ y.exact j
    off_one j ne = key_other j b (owns hole) (y.exact j) ne

    same_type : (j : Key) → Off j → E2 j ≡ y.exact j
    same_type j q = key_other j k (owns (tree_of x)) (with_type E1 c (owns hole) j) q.2 ∙ key_other j c (owns hole) (E1 j) q.1 ∙ off_one j q.0

    refs : (j : Key) (n : Bool) (u : Place) → E2 j ≡ refers n u → y.exact j ≡ refers n u
    refs j n u q = known_tree (slot_k t.number) h y.exact b hole j n u (known_tree (slot_k t.number) h E1 c hole j n u (known_tree (slot_k t.number) h (with_type E1 c (owns hole)) k (tree_of x) j n u q))

    free_one : (j : Key) → Unnamed y.exact j → Unnamed E1 j
    free_one j = unnamed_with y.exact b hole j

    typed : Typed y.rank E2 s2
    typed = same_store y.rank E2 E2 (swap sm k (at_key c)) s2
        (swap_own y.rank E1 sm k c 0 hole (tree_of x) (tree_of x) (at_key c) (forget y.rank y.exact s1 b at.state.typed free_b) (free_one k free_k) (λ q. cc) (off_one k (λ q. cc) ∙ hole_k) (free_one c free_c) (off_one c (λ q. bc (sym q)) ∙ full) refl refl)
        (λ j. refl) alike

    above : (i : ℕ) → length e ≤ i → E2 (slot_k t.number i) ≡ owns hole
    above i le = key_other (slot_k t.number i) k (owns (tree_of x)) (with_type E1 c (owns hole) (slot_k t.number i)) (λ q. cc) ∙ by (decide_number i (suc (length e))) (decide_number i (length e))
      where
        by : (i ≡ suc (length e)) ⊎ (i ≢ suc (length e)) → (i ≡ length e) ⊎ (i ≢ length e) → with_type E1 c (owns hole) (slot_k t.number i) ≡ owns hole
        by (inl z) q = ap (λ j. with_type E1 c (owns hole) (slot_k t.number j)) z ∙ key_same c (owns hole) (E1 c)
        by (inr z) (inl q) = key_other (slot_k t.number i) c (owns hole) (E1 (slot_k t.number i)) (λ l. z (let j : i ≡ suc (length e) = cc in j)) ∙ ap (λ j. E1 (slot_k t.number j)) q ∙ key_same b (owns hole) (y.exact b)
        by (inr z) (inr q) = key_other (slot_k t.number i) c (owns hole) (E1 (slot_k t.number i)) (λ l. z (let j : i ≡ suc (length e) = cc in j)) ∙ off_one (slot_k t.number i) (λ l. q (let j : i ≡ length e = cc in j)) ∙ fc.thread.above i (omega (arith, le, z, q))

    temp : TempIs (slot_k t.number) E2 h o
    temp = by owned
      where
        same : E2 h ≡ y.exact h
        same = same_type h ((λ q. cc), (λ q. cc), (λ q. cc))

        by : (o ≡ None) ⊎ ((q : Owned) × (o ≡ Some (own q))) → TempIs (slot_k t.number) E2 h o
        by (inl z) = subst (TempIs (slot_k t.number) E2 h) (sym z) (same ∙ subst (TempIs (slot_k t.number) y.exact h) z fc.thread.temp)
        by (inr z) = subst (TempIs (slot_k t.number) E2 h) (sym z.1) (subst (ExactOf (slot_k t.number) E2 (whole (own z.0))) (sym (same ∙ exact_owned (slot_k t.number) y.exact z.0 (y.exact h) (subst (TempIs (slot_k t.number) y.exact h) z.1 fc.thread.temp))) refl)

    slot_off : (i j : ℕ) → (i ≡ j → ⊥) → slot_k t.number i ≢ slot_k t.number j
    slot_off i j ne q = ne (let z : i ≡ j = cc in z)

    thread : ThreadTyped (slot_k t.number) y.rank h e E2 s2 o
    thread = rethread fc.thread (record {
      typed = typed;
      nested = fc.thread.nested.1.1;
      slots = slots_with (slot_k t.number) (with_type E1 c (owns hole)) k (owns (tree_of x)) e (unnamed_with E1 c hole k (free_one k free_k)) (λ i il q. cc)
          (slots_with (slot_k t.number) E1 c (owns hole) e (free_one c free_c) (λ i il. slot_off i (suc (length e)) (λ q. omega (arith, il, q))) (slots_with (slot_k t.number) y.exact b (owns hole) e free_b (λ i il. slot_off i (length e) (λ q. omega (arith, il, q))) fc.thread.slots.1.1));
      above = above;
      temp = temp;
      names = empty_places (length e);
      over = λ i il. fc.thread.over i (omega (arith, il));
      stood = λ j n u q. inl (refs j n u q);
    })

    -- A mark leads to none of the three keys
    held : (u i : ℕ) (n : MutexNo) (z : Running Position) → place_in ((plain_state s).thread u) ≡ Some z → slot_at z.slots i ≡ Some (Held n) → value_at s2 (y.marks u i) ≡ value_at s1 (y.marks u i)
    held u i n z runs q = everywhere (y.marks u i) (mark_off y (plain_state s) u i n z b at.state runs q free_b) (mark_off y (plain_state s) u i n z c at.state runs q free_c) (mark_off y (plain_state s) u i n z k at.state runs q free_k)

    low : (i : ℕ) (z : Value) → slot_at rest i ≡ Some z → i < length e
    low i z q = let l = slot_below rest i z q in omega (arith, l, long)

    still_there : (i : ℕ) (z : Value) → slot_at rest i ≡ Some z → slot_at t.slots i ≡ Some z
    still_there i z q = let l = low i z q in sym (slot_same i (λ j. omega (arith, l, j)) (λ j. omega (arith, l, j))) ∙ q

    abbrev content_slot : Slot
    content_slot = record { name = Some name; part = whole (own x) }

    abbrev mark_slot : Slot
    mark_slot = record { name = None; part = whole (shared (w ∷ [])) }

    below_two : (i : ℕ) → i ≢ length e → i ≢ suc (length e) → env_at e0 i ≡ env_at e i
    below_two i nb nc = below_new content_slot (mark_slot ∷ e) i nc ∙ below_new mark_slot e i nb

    locks : (i : ℕ) (n : MutexNo) → slot_at rest i ≡ Some (Held n) → IsLock (typing_with y E2 y.marks) s2 e t.number i n
    locks i n q =
        let old = still_there i (Held n) q in
        let l = subst (λ (z : Entry). IsLock y s1 z.env t.number i n) e_is (run.marked i n old) in
        let il = low i (Held n) q in
        let kept = lock_with {e2 = e} (by l (decide_number (suc i) (length e)) il) l in
        record { leads = held t.number i n x1 at.runs old ∙ l.leads; unnamed = λ j z u z2. l.unnamed j z u (refs j z u z2); content = kept.content }
      where
        by : IsLock y s1 e0 t.number i n → (suc i ≡ length e) ⊎ (suc i ≢ length e) → i < length e → owned_in (part_of (env_at e (suc i))) ≡ owned_in (part_of (env_at e0 (suc i)))
        by l (inl z) il = let f : None ≡ Some (y.gives.mutex n) = sym (ap (λ j. owned_in (part_of j)) (below_new content_slot (mark_slot ∷ e) (suc i) (λ j. omega (arith, il, j)) ∙ here_new mark_slot e (suc i) z)) ∙ l.content in cc
        by l (inr z) il = sym (ap (λ j. owned_in (part_of j)) (below_two (suc i) z (λ j. omega (arith, il, j))))

    hidden : (i : ℕ) → is_hidden (env_at e i) ≡ is_held (slot_at rest i)
    hidden i = by (Rattle.law_plain_values.proofs.acts.Lower.decide_less i (length e))
      where
        by : (i < length e) ⊎ (length e ≤ i) → is_hidden (env_at e i) ≡ is_held (slot_at rest i)
        by (inl il) = ap is_hidden (sym (below_two i (λ j. omega (arith, il, j)) (λ j. omega (arith, il, j)))) ∙ ap (λ (z : Entry). is_hidden (env_at z.env i)) (sym e_is) ∙ run.hidden i ∙ sym (ap is_held (slot_same i (λ j. omega (arith, il, j)) (λ j. omega (arith, il, j))))
        by (inr le) = ap is_hidden (Rattle.law_plain_values.proofs.acts.Slots.env_none e i le) ∙ sym (ap is_held (temp_none rest i (omega (arith, le, long))))

    off_other : (j : Key) → touched t.number j ≡ false → Off j
    off_other j q = ((λ z. mine (length e) (sym (ap (touched t.number) z) ∙ q)), (λ z. mine (suc (length e)) (sym (ap (touched t.number) z) ∙ q)), (λ z. let u : true ≡ false = sym (ap (touched t.number) z) ∙ q in cc))
      where
        mine : (i : ℕ) → touched t.number (slot_k t.number i) ≡ false → ⊥
        mine i q = let u = other_by t.number t.number q in u refl

    base : Base y (plain_state s) a2 t.number x1 x2 e0 e us ts o g E2 y.marks
    base = record {
      lone = lone;
      tops = tops;
      idle = idle;
      entry = refl;
      temps = run.all_temps ∙ ap (λ (z : Entry). length z.temps) e_is;
      slots = long;
      over = λ i il n. fc.high i n (omega (arith, il));
      thread = thread;
      same = λ j q. same_type j (off_other j q);
      waits = λ i il. same_type (temp_k t.number i) ((λ q. cc), (λ q. cc), (λ q. cc));
      named = λ j n u q. inr (j, (λ i. i), refs j n u q);
      still = λ j n u ne q. refs j n u q;
      hidden = hidden;
      locks = locks;
      marks = λ u i q. refl;
      held = λ u i n z ne runs q. held u i n z runs q;
    }

    -- THE SUMS

    carried : Carried s1 s2
    carried = record {
      to = flip (at_key c) (at_key k);
      from = flip (at_key c) (at_key k);
      from_to = flip_twice (at_key c) (at_key k);
      to_from = flip_twice (at_key c) (at_key k);
      there = λ l u q i. forth l u q i (decide_location l (at_key c)) (decide_location l (at_key k)) (decide_location l (at_key b));
      back = λ l u q i. before l u q i (decide_location l (at_key c)) (decide_location l (at_key k)) (decide_location l (at_key b));
    }
      where
        none_not : (l : Location) (u z : Val) (st : Store) (j : Key) → l ≡ at_key j → st.at j ≡ z → (Counted z → ⊥) → value_at st l ≡ Some u → Counted u → ⊥
        none_not l u z st j q is no_count i n = let r : Some u ≡ Some z = sym i ∙ ap (value_at st) q ∙ ap Some is in let o : u ≡ z = cc in no_count (subst Counted o n)

        forth : (l : Location) (u : Val) → Counted u → value_at s1 l ≡ Some u → (l ≡ at_key c) ⊎ (l ≢ at_key c) → (l ≡ at_key k) ⊎ (l ≢ at_key k) → (l ≡ at_key b) ⊎ (l ≢ at_key b) → value_at s2 (flip (at_key c) (at_key k) l) ≡ Some u
        forth l u q i (inl z) nk nb = ap (λ r. value_at s2 (flip (at_key c) (at_key k) r)) z ∙ ap (value_at s2) (flip_first (at_key c) (at_key k)) ∙ ap Some (at_k ∙ sym was_c) ∙ sym (ap (value_at s1) z) ∙ i
        forth l u q i (inr nc) (inl z) nb = absurd (none_not l u gone_v s1 k z was_k (λ r. r) i q)
        forth l u q i (inr nc) (inr nk) (inl z) = absurd (none_not l u (ref_v (y.marks t.number (length e))) s1 b z was_b (λ r. r) i q)
        forth l u q i (inr nc) (inr nk) (inr nb) = ap (value_at s2) (flip_third (at_key c) (at_key k) l nc nk) ∙ everywhere l nb nc nk ∙ i

        before : (l : Location) (u : Val) → Counted u → value_at s2 l ≡ Some u → (l ≡ at_key c) ⊎ (l ≢ at_key c) → (l ≡ at_key k) ⊎ (l ≢ at_key k) → (l ≡ at_key b) ⊎ (l ≢ at_key b) → value_at s1 (flip (at_key c) (at_key k) l) ≡ Some u
        before l u q i (inl z) nk nb = absurd (none_not l u gone_v s2 c z at_c (λ r. r) i q)
        before l u q i (inr nc) (inl z) nb = ap (λ r. value_at s1 (flip (at_key c) (at_key k) r)) z ∙ ap (value_at s1) (flip_second (at_key c) (at_key k)) ∙ ap Some (was_c ∙ sym at_k) ∙ sym (ap (value_at s2) z) ∙ i
        before l u q i (inr nc) (inr nk) (inl z) = absurd (none_not l u gone_v s2 b z at_b (λ r. r) i q)
        before l u q i (inr nc) (inr nk) (inr nb) = ap (value_at s1) (flip_third (at_key c) (at_key k) l nc nk) ∙ sym (everywhere l nb nc nk) ∙ i

    went_on : (u : ℕ) (z : Running Position) → place_in (a2.thread u) ≡ Some z → (r : Running Position) × (place_in ((plain_state s).thread u) ≡ Some r)
    went_on u z q = ⊎_elim (λ (i : u ≡ t.number). (x1, ap (λ r. place_in ((plain_state s).thread r)) i ∙ at.runs)) (λ (ne : u ≢ t.number). (z, sym (ap place_in (lone.others u ne)) ∙ q)) (decide_number u t.number)

    runs_two : place_in (a2.thread t.number) ≡ Some x2
    runs_two = ap place_in lone.now ∙ runs_still ((plain_state s).thread t.number) x1 x2 at.runs

    -- nobody holds the mutex then
    unheld : (u i : ℕ) → IsMark a2 m u i → ⊥
    unheld u i q = ⊎_elim mine other (decide_number u t.number)
      where
        one : HasOneMark (plain_state s) m
        one = d.out outside

        mine : u ≡ t.number → ⊥
        mine z =
            let r : Some x2 ≡ Some q.thread = sym runs_two ∙ ap (λ l. place_in (a2.thread l)) (sym z) ∙ q.goes_on in
            let same : q.thread ≡ x2 = cc in
            let j : slot_at rest i ≡ Some (Held m) = ap (λ (l : Running Position). slot_at l.slots i) (sym same) ∙ q.mark in
            let il = low i (Held m) j in
            let this = one.only t.number (length e) mark in
            let that = one.only t.number i (record { thread = x1; goes_on = at.runs; mark = still_there i (Held m) j }) in
            let eq : i ≡ length e = that.1 ∙ sym this.1 in
            omega (arith, il, eq)

        other : u ≢ t.number → ⊥
        other ne =
            let this = one.only t.number (length e) mark in
            let that = one.only u i (record { thread = q.thread; goes_on = sym (ap place_in (lone.others u ne)) ∙ q.goes_on; mark = q.mark }) in
            ne (that.0 ∙ sym this.0)

    mutexes : (n : MutexNo) (z : Shared) → a2.mutex n ≡ Some z → MutexTyped (typing_with y E2 y.marks) a2 s2 n z
    mutexes n z q = ⊎_elim same other (decide_mutex n m)
      where
        same : n ≡ m → MutexTyped (typing_with y E2 y.marks) a2 s2 n z
        same i =
            let r : Some back ≡ Some z = sym now_in ∙ ap a2.mutex (sym i) ∙ q in
            let is_back : back ≡ z = cc in
            subst (λ l. MutexTyped (typing_with y E2 y.marks) a2 s2 l z) (sym i) (subst (MutexTyped (typing_with y E2 y.marks) a2 s2 m) is_back (record {
              given = given m ∙ d.given;
              shares = as_many Counted s1 s2 carried m (λ u. tt) f.shares d.shares;
              needed = d.needed;
              out = λ u. absurd cc;
              unheld = λ u l j r z. unheld j r z;
              content = λ u l. key_same k (owns (tree_of x)) (with_type E1 c (owns hole) k) ∙ ap (λ r. owns (tree_of r)) content_is;
            }))

        other : n ≢ m → MutexTyped (typing_with y E2 y.marks) a2 s2 n z
        other ne =
            let r = at.state.mutexes n z (sym (others n ne) ∙ q) in
            let still = λ (i : ℕ) (l : slot_at t.slots i ≡ Some (Held n)). slot_same i (λ j. let u : Some (Held m) ≡ Some (Held n) = sym slot_mark ∙ ap (slot_at t.slots) (sym j) ∙ l in ne cc) (λ j. let u : Some (Own v) ≡ Some (Held n) = sym slot_content ∙ ap (slot_at t.slots) (sym j) ∙ l in cc) ∙ l in
            record {
              given = given n ∙ r.given;
              shares = as_many Counted s1 s2 carried n (λ u. tt) z.shares r.shares;
              needed = r.needed;
              out = λ u. one_mark_to (plain_state s) a2 t.number x1 x2 at.runs lone.now lone.others n still (λ i. still_there i (Held n)) (r.out u);
              unheld = λ u l j i z2. r.unheld u l j i (mark_back (plain_state s) a2 t.number x1 x2 at.runs lone.now lone.others n still (λ i. still_there i (Held n)) j i z2);
              content = λ u l. same_type (content_k n.home n.count) ((λ j. cc), (λ j. cc), (λ j. ne (mutex_is n m j))) ∙ r.content u l;
            }

    sums : Sums y (plain_state s) a2 E2 y.marks
    sums = record {
      there = λ q n z. ⊎_elim (λ (i : n ≡ m). (back, ap a2.mutex i ∙ now_in)) (λ (ne : n ≢ m). let r = at.state.there (carried.from q) n (share_back Counted s1 s2 carried n (λ u. tt) q z) in (r.0, others n ne ∙ r.1)) (decide_mutex n m);
      mutexes = mutexes;
      one_task = λ q l u i j r z. sym (carried.to_from q) ∙ ap carried.to (at.state.one_task (carried.from q) (carried.from l) u i j (carried.back q (task_v u i) tt r) (carried.back l (task_v u j) tt z)) ∙ carried.to_from l;
      task_from = λ q u l r. (carried.from q, carried.back q (task_v u l) tt r);
      task_to = λ q u l r. (carried.to q, l, carried.there q (task_v u l) tt r);
      objects_there = λ q r l. let i = at.state.objects_there (carried.from q) r (carried.back q (box_v r) tt l) in (i.0, objects r ∙ i.1);
      objects_owned = λ r u l. let i = at.state.objects_owned r u (sym (objects r) ∙ l) in (carried.to i.0, carried.there i.0 (box_v r) tt i.1);
      objects_made = λ r u z l runs. let i = went_on r.thread z runs in let j = at.state.objects_made r u i.0 (sym (objects r) ∙ l) i.1 in let n = made r.thread in omega (arith, j, n);
    }

    pub unlock_typed : PositionTypes (typing_with y E2 y.marks) a2
    unlock_typed = turned at fc base sums

-- THE SLOTS OF A LOCK

-- at least two values
two_slots : (vs : List Value) (n : ℕ) → length vs ≡ suc (suc n) → (a : Value) × (b : Value) × (rest : List Value) × (vs ≡ a ∷ b ∷ rest)
two_slots [] n l = cc
two_slots (a ∷ []) n l = absurd (omega (arith, l))
two_slots (a ∷ b ∷ rest) n l = (a, b, rest, refl)

held_is : (v : Value) → is_held (Some v) ≡ true → (m : MutexNo) × (v ≡ Held m)
held_is (Held m) h = (m, refl)
held_is (Own v) h = cc
held_is (ToSlot i) h = cc
held_is (ToObject o) h = cc

-- what is held is out
held_out : {y : Typing} {a : PlainState Position} {s : Store} {m : MutexNo} {f : Shared} (t i : ℕ) → MutexTyped y a s m f → IsMark a m t i → f.content ≡ None
held_out {f = f} t i d q = by f.content refl
  where
    by : (o : Option Plain) → f.content ≡ o → f.content ≡ None
    by None e = e
    by (Some v) e = absurd (d.unheld v e t i q)

-- THE ACT

record UnlockRow (x : Entry) (vs : List Value) (l : Leaves) (z : Entry) : Type 0 where
  env : Env
  temps : List Kind
  result : Owned
  content : Owned
  place : Lval
  name : Text
  owned : list_all is_owned temps ≡ true
  entry : x ≡ going (with_lock env place name content) temps result
  leaves : l ≡ quiet vs
  comes : z ≡ going env temps result

unlock_row : {x z : Entry} {vs : List Value} {l : Leaves} → ActRow StartsAs x vs do_unlock l z → UnlockRow x vs l z
unlock_row (r_unlock {e = e} {ts = ts} {g = g} {x = x} {w = w} {name = name} o) = record { env = e; temps = ts; result = g; content = x; place = w; name = name; owned = o; entry = refl; leaves = refl; comes = refl }

module _ (now : Position → Now) (move : Position → Option (Move Position Position)) (y : Typing) (s : Machine Position) (t : Thread Position) (p : Position) (wrap : Position → Life Position) (plug : Value → Position) where
  unlock_steps : Ready y s t p wrap do_unlock plug → StepsTyped y (moves_by now move) s t fresh.None (record { act = do_unlock; plug = λ z. wrap (plug z) })
  unlock_steps r =
      let i = unlock_row r.row in
      let x : Running Position = record { place = p; slots = t.slots } in
      let n = t.number in
      let e0 = with_lock i.env i.place i.name i.content in
      let runs = runs_here s t p wrap r.goes_on r.found r.at in
      let k = stay i.temps i.owned in
      let high = suc (y.rank (slot_k n (length e0))) in
      let y2 = raised_typing high y in
      let st = raised high y (plain_state s) r.state in
      let first = r.state.threads n x runs in
      let run = st.threads n x runs in
      let at : At y2 (plain_state s) n x e0 i.temps i.result = record { state = st; runs = runs; entry = i.entry } in
      let fc = focus y2 (plain_state s) n x e0 i.temps i.result st runs i.entry (room y n e0 (record { differ = first.keys.differ; off = λ i z. absurd cc; ranks = first.keys.ranks })) k.us k.o k.tops k.idle in
      let e_is : run.entry ≡ going e0 i.temps i.result = sym run.known ∙ i.entry in
      let two = two_slots t.slots (length i.env) (run.all_slots ∙ ap (λ (z : Entry). length z.env) e_is) in
      let rest = two.2 in
      let long : length rest ≡ length i.env = let q = ap length (sym two.3) ∙ run.all_slots ∙ ap (λ (z : Entry). length z.env) e_is in omega (arith, q) in
      let second : slot_at t.slots (length i.env) ≡ Some two.1 = ap (λ z. slot_at z (length i.env)) two.3 ∙ pushed_others two.0 (two.1 ∷ rest) (length i.env) (suc (length i.env)) (ap suc (sym long)) (λ z. omega (arith, z)) ∙ pushed_here two.1 rest (length i.env) (sym long) in
      let top : slot_at t.slots (suc (length i.env)) ≡ Some two.0 = ap (λ z. slot_at z (suc (length i.env))) two.3 ∙ pushed_here two.0 (two.1 ∷ rest) (suc (length i.env)) (ap suc (sym long)) in
      let content_slot : Slot = record { name = Some i.name; part = whole (own i.content) } in
      let mark_slot : Slot = record { name = None; part = whole (shared (i.place ∷ [])) } in
      let m = held_is two.1 (sym (ap is_held second) ∙ sym (run.hidden (length i.env)) ∙ ap (λ (z : Entry). is_hidden (env_at z.env (length i.env))) e_is ∙ ap is_hidden (below_new content_slot (mark_slot ∷ i.env) (length i.env) (λ z. omega (arith, z)) ∙ here_new mark_slot i.env (length i.env) refl)) in
      let clear : is_held (Some two.0) ≡ false = sym (ap is_held top) ∙ sym (run.hidden (suc (length i.env))) ∙ ap (λ (z : Entry). is_hidden (env_at z.env (suc (length i.env)))) e_is ∙ ap is_hidden (here_new content_slot (mark_slot ∷ i.env) (suc (length i.env)) refl) in
      let s1 = store y2 (plain_state s) in
      let mark_at = ref_v (y2.marks n (suc (length i.env))) in
      let shown : s1.at (slot_k n (suc (length i.env))) ≡ val_of y2.gives n two.0 = ap (Rattle.fr_sound.specs.States.slot_val temps_of y2 n (suc (length i.env))) runs ∙ Rattle.law_plain_values.proofs.acts.Lower.seen_is temps_of y2 n (suc (length i.env)) x ∙ ap (seen_as y2.gives n mark_at) top ∙ seen_val_of y2.gives n mark_at two.0 clear in
      let fits = top_fits y2.rank y2.exact s1 st.typed (slot_k n (suc (length i.env))) (tree_of i.content) (exact_owned (slot_k n) y2.exact i.content (y2.exact (slot_k n (suc (length i.env)))) fc.thread.slots.0) in
      let v = fits_owned y2.gives n i.content two.0 (subst (TopFits (tree_of i.content)) shown fits) in
      let slots_are : t.slots ≡ Own v.0 ∷ Held m.0 ∷ rest = two.3 ∙ ap₂ (λ a b. a ∷ b ∷ rest) v.1 m.1 in
      let marked = second ∙ ap Some m.1 in
      let lock = run.marked (length i.env) m.0 marked in
      let f = st.there (y2.marks n (length i.env)) m.0 (tree_of (y2.gives.mutex m.0), lock.leads) in
      let outside = held_out n (length i.env) (st.mutexes m.0 f.0 f.1) (record { thread = x; goes_on = runs; mark = marked }) in
      let q : Position = record { entry = going i.env i.temps i.result; temps = p.temps } in
      let back : Shared = record { content = Some v.0; shares = f.0.shares } in
      let ms = with_mutex s.mutexes m.0 (Some back) in
      let a2 = plain_state (record s { threads = with_thread s.threads (record { number = t.number; life = wrap q; slots = rest }); mutexes = ms }) in
      let only = only_here s t p wrap r.goes_on r.found r.at q rest s.heap s.output (λ u. omega arith) in
      let typed = unlock_typed s t p i.env i.temps k.us k.o i.result i.content i.place i.name y2 at fc k.tops k.idle k.owned v.0 m.0 rest slots_are f.0 f.1 outside a2 (record { now = only.now; others = only.others; pairs = only.pairs }) (λ o. refl) only.made (there_set s.mutexes m.0 (Some back) f.0 f.1)
      (λ k ne. there_off s.mutexes m.0 (Some back) k ne) (λ k. given_set s.mutexes m.0 (Some back) k) in
      step_by now move s t wrap (record { act = do_unlock; plug = λ u. wrap (plug u) }) plug unit_value q (λ l. record s { threads = with_thread s.threads (record { number = t.number; life = l; slots = rest }); mutexes = ms }) (label.Unlock m.0 ∷ []) y _ r.goes_on
      (r.comes unit_value ∙ ap₂ (λ b k. record { entry = b; temps = left_after k unit_value }) i.comes i.leaves)
      (ap (λ o. nameless fresh.None (unlocked (moves_by now move) s t (record { act = do_unlock; plug = λ u. wrap (plug u) }) o)) slots_are
      ∙ ap (λ o. Some (record { state = given_back (moves_by now move) (goes_on (moves_by now move) s t (record { act = do_unlock; plug = λ u. wrap (plug u) }) unit_value rest) m.0 v.0 o; labels = label.Unlock m.0 ∷ [] })) f.1)
      typed
      refl
      (λ j u e.
      let E1 = with_type y.exact (slot_k n (length i.env)) (owns hole) in
      let E2 = with_type E1 (slot_k n (suc (length i.env))) (owns hole) in
      none_owns y.exact (slot_k n (length i.env)) hole j u (none_owns E1 (slot_k n (suc (length i.env))) hole j u (none_owns E2 (content_k m.0.home m.0.count) (tree_of i.content) j u e)))

pub unlock_keeps : Keeps IsUnlocking
unlock_keeps now move y s t p wrap act plug h r = subst (λ a. StepsTyped y (moves_by now move) s t fresh.None (record { act = a; plug = λ z. wrap (plug z) })) (sym h) (unlock_steps now move y s t p wrap plug (subst (λ a. Ready y s t p wrap a plug) h r))
