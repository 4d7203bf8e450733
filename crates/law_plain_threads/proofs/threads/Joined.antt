-- A thread has joined another one: the result of the other one has come to hand in the place of its task. The state is typed again.
use Rattle.std.proofs.Common.{◌≡◌, ◌≢◌, ◌⊎◌, inl, inr, ⊎_elim, ◌∙◌, ap₂, ℕ, suc, Bool, true, false, List, ◌∷◌, length, Some, None, refl, sym, ap, subst, arith}
use Rattle.std.specs.Prelude.{◌==◌, ⊤}
use Rattle.fr_base.specs.declared.label.Plain.{Plain}
use Rattle.fr_base.specs.declared.label.Plain.TheVariants as plain
use Rattle.fr_base.specs.declared.name.MutexNo.{MutexNo}
use Rattle.fr_typing.specs.Kinds.{Owned, task, Kind, own, whole}
use Rattle.fr_typing.specs.Places.{Env}
use Rattle.fr_typing.proofs.PlaceLemmas.{eq_cases}
use Rattle.fr_store.specs.Keys.{Key, slot_k, temp_k, content_k, result_k, hand_k}
use Rattle.fr_store.specs.Store.{Alike, Location, at_key, at_object, Val, gone_v, box_v, mutex_v, task_v, Store, value_at, Place, put_value, swap}
use Rattle.fr_store.specs.Changes.{SameButTwo}
use Rattle.fr_store.specs.Typed.{Tree, hole, owns, refers, KeyTypes, Typed, Unnamed}
use Rattle.fr_store.specs.Below.{tree_of, ExactOf}
use Rattle.fr_store.specs.Rows.{with_type}
use Rattle.fr_store.specs.Thread.{ThreadTyped}
use Rattle.fr_store.proofs.Keys.{key_same, key_other, decide_number}
use Rattle.fr_store.proofs.Chains.{decide_location}
use Rattle.fr_store.proofs.Rows.{forget, swap_own, same_store, unnamed_with, put_other}
use Rattle.fr_store.proofs.ThreadKept.{known_tree, slots_with}
use Rattle.fr_plain.specs.declared.value.Value.{Value}
use Rattle.fr_plain.specs.declared.value.Value.TheVariants.{Own, Held}
use Rattle.fr_plain.specs.State.{slot_at}
use Rattle.fr_plain.specs.MachineThreads.{over, ended}
use Rattle.fr_plain.specs.PlainState.{Running, PlainState, place_in}
use Rattle.fr_sound.specs.Entries.{Entry, going}
use Rattle.fr_sound.specs.Seen.{seen_cell, owned_val, OneTask}
use Rattle.fr_sound.specs.States.{Typing, RunningTyped, slot_val, temp_val, result_val, content_val, env_at, is_hidden, IsLock, WaitsFor, IsKept, IsBranch, IsOwed}
use Rattle.law_plain_values.specs.acts.Positions.{Position, Knows, temps_of, PositionTypes}
use Rattle.law_plain_values.proofs.acts.Lower.{seen_as, seen_is}
use Rattle.law_plain_values.proofs.acts.OneThread.{store, typing_with, CarriedOf, RunningCore, with_running, runs_still, kept_still, kept_before, none_ended, same_by, other_by, waits_same}
use Rattle.law_plain_values.proofs.acts.Turns.{theirs, nobody_by, turns_typed}
use Rattle.law_plain_values.proofs.acts.Focus.{top_some, hand_at, Focus, unfocus, temp_is, temp_free}
use Rattle.law_plain_values.proofs.acts.AtHand.{mark_off}
use Rattle.law_plain_values.proofs.acts.Moved.{flip, flip_first, flip_second, flip_third, flip_twice}
use Rattle.law_plain_values.proofs.acts.Hand.{At, pushed_others, pushed_here}
use Rattle.law_plain_values.proofs.acts.Operands.{hand_value}
use Rattle.law_plain_values.proofs.acts.Rethread.{rethread}
use Rattle.law_plain_values.proofs.acts.SlotTurn.{alike_swap}
use Rattle.law_plain_values.proofs.acts.Stays.{Stays, there_by, mutexes_by, objects_by, owned_by, of_by, near_by, named_by}
use Rattle.law_plain_values.proofs.acts.Threads.{no_pair}
use Rattle.law_plain_values.proofs.acts.AtHand.{result_same}

-- counted values, but for the tasks of one thread
abbrev pub ButTask : ℕ → Val → Type 0
ButTask u (box_v o) = ⊤
ButTask u (mutex_v m c) = ⊤
ButTask u (task_v n r) = n ≢ u
ButTask u _ = ⊥

-- THE STATE

module _ (y : Typing) (a a2 : PlainState Position) (t u : ℕ) (x : Running Position) (e : Env) (us : List Kind) (g k : Owned) (v : Plain) (ws : List Value) (at : At y a t x e (own (task k) ∷ us) g) (fc : Focus y a t e us (Some (own (task k)))) (temps : x.place.temps ≡ Own (plain.Task u) ∷ ws)
    (was : a.thread u ≡ Some (ended (Own v))) (gives_is : y.gives.result u ≡ k) where
  abbrev h : Key
  h = hand_at t us

  abbrev rk : Key
  rk = result_k u

  abbrev R : Tree
  R = tree_of k

  abbrev x2 : Running Position
  x2 = record { place = record { entry = going e (own k ∷ us) g; temps = Own v ∷ ws }; slots = x.slots }

  abbrev E1 : KeyTypes
  E1 = with_type y.exact (hand_at t us) (owns hole)

  abbrev pub E2 : KeyTypes
  E2 = with_type (with_type (with_type y.exact (hand_at t us) (owns hole)) (result_k u) (owns hole)) (hand_at t us) (owns (tree_of k))

  abbrev s1 : Store
  s1 = store y a

  abbrev sm : Store
  sm = put_value s1 (at_key (hand_at t us)) gone_v

  abbrev s2 : Store
  s2 = store (typing_with y E2 y.marks) a2

  abbrev T : ℕ → Bool
  T w = w == t

  module _ (now : a2.thread t ≡ with_running (a.thread t) x2) (ends : a2.thread u ≡ Some over) (others : (w : ℕ) → w ≢ t → w ≢ u → a2.thread w ≡ a.thread w) (pairs : (w : ℕ) → a2.pair w ≡ a.pair w) (stays : Stays a a2) where
    run : RunningTyped Knows temps_of y s1 t (a.pair t) x
    run = at.state.threads t x at.runs

    e_is : run.entry ≡ going e (own (task k) ∷ us) g
    e_is = sym run.known ∙ at.entry

    alone : a.pair t ≡ None
    alone = no_pair at

    long : length ws ≡ length us
    long = let i = ap length (sym temps) ∙ run.all_temps ∙ ap (λ (z : Entry). length z.temps) e_is in omega (arith, i)

    runs_two : place_in (a2.thread t) ≡ Some x2
    runs_two = ap place_in now ∙ runs_still (a.thread t) x x2 at.runs

    differ : u ≢ t
    differ q = let f : None ≡ Some x = sym (ap place_in was) ∙ ap (λ z. place_in (a.thread z)) q ∙ at.runs in cc

    -- WHAT STANDS

    was_h : s1.at h ≡ task_v u R
    was_h = hand_value y a t (length us) x (Own (plain.Task u)) ws at.runs temps (sym long) ∙ ap (λ z. task_v u (tree_of z)) gives_is

    was_rk : s1.at rk ≡ owned_val y.gives v
    was_rk = ap (result_val temps_of y u) was

    now_h : s2.at h ≡ owned_val y.gives v
    now_h = ap (temp_val temps_of (typing_with y E2 y.marks) t (length us)) runs_two ∙ temp_is (typing_with y E2 y.marks) t (length us) x2 ∙ ap (seen_as y.gives t gone_v) (pushed_here (Own v) ws (length us) (sym long))

    now_rk : s2.at rk ≡ gone_v
    now_rk = ap (result_val temps_of (typing_with y E2 y.marks) u) ends

    temp_two : (i : ℕ) → i ≢ length us → s2.at (temp_k t i) ≡ s1.at (temp_k t i)
    temp_two i ne =
        ap (temp_val temps_of (typing_with y E2 y.marks) t i) runs_two ∙ temp_is (typing_with y E2 y.marks) t i x2 ∙ ap (seen_as y.gives t gone_v) (pushed_others (Own v) ws i (length us) (sym long) ne)
        ∙ sym (ap (seen_as y.gives t gone_v) (pushed_others (Own (plain.Task u)) ws i (length us) (sym long) ne)) ∙ sym (ap (λ z. seen_as y.gives t gone_v (slot_at z i)) temps) ∙ sym (temp_is y t i x) ∙ sym (ap (temp_val temps_of y t i) at.runs)

    slot_two : (i : ℕ) → s2.at (slot_k t i) ≡ s1.at (slot_k t i)
    slot_two i = ap (slot_val temps_of (typing_with y E2 y.marks) t i) runs_two ∙ seen_is temps_of (typing_with y E2 y.marks) t i x2 ∙ sym (seen_is temps_of y t i x) ∙ sym (ap (slot_val temps_of y t i) at.runs)

    place_other : (w : ℕ) → w ≢ t → place_in (a2.thread w) ≡ place_in (a.thread w)
    place_other w ne = ⊎_elim (λ (q : w ≡ u). ap (λ z. place_in (a2.thread z)) q ∙ ap place_in ends ∙ sym (ap place_in was) ∙ ap (λ z. place_in (a.thread z)) (sym q)) (λ (nu : w ≢ u). ap place_in (others w ne nu)) (decide_number w u)

    same : SameButTwo (at_key h) (at_key rk) s1 s2
    same (at_object o) nh nr = ap (seen_cell y.gives) (stays.objects o)
    same (at_key j) nh nr = ap Some (by j nh nr)
      where
        by : (j : Key) → at_key j ≢ at_key h → at_key j ≢ at_key rk → s2.at j ≡ s1.at j
        by (slot_k w i) nh nr = ⊎_elim (λ (q : w ≡ t). ap (λ z. s2.at (slot_k z i)) q ∙ slot_two i ∙ ap (λ z. s1.at (slot_k z i)) (sym q)) (λ (ne : w ≢ t). ap (slot_val temps_of y w i) (place_other w ne)) (decide_number w t)
        by (temp_k w i) nh nr =
            ⊎_elim (λ (q : w ≡ t). ap (λ z. s2.at (temp_k z i)) q ∙ temp_two i (λ f. nh (ap₂ (λ z n. at_key (temp_k z n)) q f)) ∙ ap (λ z. s1.at (temp_k z i)) (sym q)) (λ (ne : w ≢ t). ap (temp_val temps_of y w i) (place_other w ne)) (decide_number w t)
        by (content_k m c) nh nr = ap (content_val y.gives) (stays.mutexes (record { home = m; count = c }))
        by (result_k w) nh nr =
            let nu : w ≢ u = λ q. nr (ap (λ z. at_key (result_k z)) q) in
            ⊎_elim (λ (q : w ≡ t). ap (λ z. s2.at (result_k z)) q ∙ ap (result_val temps_of y t) now ∙ result_same y t (a.thread t) x x2 at.runs ∙ ap (λ z. s1.at (result_k z)) (sym q)) (λ (ne : w ≢ t). ap (result_val temps_of y w) (others w ne nu)) (decide_number w t)
        by (hand_k w) nh nr = refl

    same_put : SameButTwo (at_key h) (at_key rk) sm s2
    same_put l nh nr = same l nh nr ∙ sym (put_other s1 (at_key h) gone_v l nh)

    gone_h : sm.at h ≡ gone_v
    gone_h = key_same h gone_v (s1.at h)

    put_rk : value_at sm (at_key rk) ≡ Some (owned_val y.gives v)
    put_rk = put_other s1 (at_key h) gone_v (at_key rk) (λ q. cc) ∙ ap Some was_rk

    alike : Alike (swap sm h (at_key rk)) s2
    alike = alike_swap sm s2 h (at_key rk) (owned_val y.gives v) (λ q. cc) put_rk same_put (ap Some (now_rk ∙ sym gone_h)) now_h

    -- TYPES

    free_rk : Unnamed y.exact rk
    free_rk j q w is z = let i = at.state.near j q w is in let l : slot_k i.owner i.slot ≡ rk = sym i.is ∙ z in cc

    full_rk : y.exact rk ≡ owns R
    full_rk = at.state.results u (Own v) was ∙ ap (λ z. owns (tree_of z)) gives_is

    free_h : Unnamed E1 h
    free_h = unnamed_with y.exact h hole h fc.thread.quiet

    free_one : Unnamed E1 rk
    free_one = unnamed_with y.exact h hole rk free_rk

    typed : Typed y.rank E2 s2
    typed = same_store y.rank E2 E2 (swap sm h (at_key rk)) s2
        (swap_own y.rank E1 sm h rk 0 hole R R (at_key rk) (forget y.rank y.exact s1 h at.state.typed fc.thread.quiet) free_h (λ q. cc) (key_same h (owns hole) (y.exact h)) free_one (key_other rk h (owns hole) (y.exact rk) (λ q. cc) ∙ full_rk) refl refl)
        (λ j. refl) alike

    is_two : E2 h ≡ owns R
    is_two = key_same h (owns R) (with_type E1 rk (owns hole) h)

    off : (j : Key) → j ≢ h → j ≢ rk → E2 j ≡ y.exact j
    off j nh nr = key_other j h (owns R) (with_type E1 rk (owns hole) j) nh ∙ key_other j rk (owns hole) (E1 j) nr ∙ key_other j h (owns hole) (y.exact j) nh

    refs : (j : Key) (q : Bool) (w : Place) → E2 j ≡ refers q w → y.exact j ≡ refers q w
    refs j q w z = known_tree (slot_k t) h y.exact h hole j q w (known_tree (slot_k t) h E1 rk hole j q w (known_tree (slot_k t) h (with_type E1 rk (owns hole)) h R j q w z))

    free_two : Unnamed (with_type E1 rk (owns hole)) h
    free_two = unnamed_with E1 rk hole h free_h

    thread : ThreadTyped (slot_k t) y.rank h e E2 s2 (Some (own k))
    thread = rethread fc.thread (record {
      typed = typed;
      nested = fc.thread.nested;
      slots = slots_with (slot_k t) (with_type E1 rk (owns hole)) h (owns R) e free_two (λ i il q. cc) (slots_with (slot_k t) E1 rk (owns hole) e free_one (λ i il q. cc) (slots_with (slot_k t) y.exact h (owns hole) e fc.thread.quiet (λ i il q. cc) fc.thread.slots));
      above = λ i le. off (slot_k t i) (λ q. cc) (λ q. cc) ∙ fc.thread.above i le;
      temp = subst (ExactOf (slot_k t) E2 (whole (own k))) (sym is_two) refl;
      names = tt;
      over = fc.thread.over;
      stood = λ j q w z. inl (refs j q w z);
    })

    held : (w i : ℕ) (m : MutexNo) (z : Running Position) → place_in (a.thread w) ≡ Some z → slot_at z.slots i ≡ Some (Held m) → value_at s2 (y.marks w i) ≡ value_at s1 (y.marks w i)
    held w i m z runs r = same (y.marks w i) (mark_off y a w i m z h at.state runs r fc.thread.quiet) (mark_off y a w i m z rk at.state runs r free_rk)

    core : RunningCore (typing_with y E2 y.marks) s2 t (a2.pair t) x2
    core =
        unfocus y a a2 t e e us (own k ∷ us) (Some (own (task k))) (Some (own k)) g E2 y.marks x2 fc top_some (λ q. cc) thread (λ i il. off (temp_k t i) (λ q. let f : i ≡ length us = cc in omega (arith, il, f)) (λ q. cc))
        (λ n j m w z. temp_free y a t n at.state j m w (refs j m w z)) (λ i il n. fc.high i n (omega (arith, il))) refl (ap (λ (z : Entry). z.gives) (sym e_is) ∙ run.gives) (pairs t ∙ alone)
        (run.all_slots ∙ ap (λ (z : Entry). length z.env) e_is) (ap suc long)
        (λ i. ap (λ (z : Entry). is_hidden (env_at z.env i)) (sym e_is) ∙ run.hidden i)
        (λ i m z. let lock = subst (λ (r : Entry). IsLock y s1 r.env t i m) e_is (run.marked i m z) in record { leads = held t i m x at.runs z ∙ lock.leads; unnamed = λ j b w r. lock.unnamed j b w (refs j b w r); content = lock.content })

    -- TASKS

    -- the one task of the thread stood at hand
    only_task : (l : Location) (r : Tree) → value_at s1 l ≡ Some (task_v u r) → l ≡ at_key h
    only_task l r z = at.state.one_task l (at_key h) u r R z (ap Some was_h)

    -- and stands nowhere now
    no_task : (l : Location) (r : Tree) → value_at s2 l ≡ Some (task_v u r) → ⊥
    no_task l r z = by (decide_location l (at_key h)) (decide_location l (at_key rk))
      where
        by : (l ≡ at_key h) ⊎ (l ≢ at_key h) → (l ≡ at_key rk) ⊎ (l ≢ at_key rk) → ⊥
        by (inl q) f = let i = only_task (at_key rk) r (ap Some (was_rk ∙ sym now_h) ∙ sym (ap (value_at s2) q) ∙ z) in absurd cc
        by (inr q) (inl f) = let i : Some gone_v ≡ Some (task_v u r) = ap Some (sym now_rk) ∙ sym (ap (value_at s2) f) ∙ z in cc
        by (inr q) (inr f) = q (only_task l r (sym (same l q f) ∙ z))

    carried : CarriedOf (ButTask u) s1 s2
    carried = record { to = flip (at_key h) (at_key rk); from = flip (at_key h) (at_key rk); from_to = flip_twice (at_key h) (at_key rk); to_from = flip_twice (at_key h) (at_key rk); there = there; back = back }
      where
        there : (l : Location) (w : Val) → ButTask u w → value_at s1 l ≡ Some w → value_at s2 (flip (at_key h) (at_key rk) l) ≡ Some w
        there l w b i = by (decide_location l (at_key h)) (decide_location l (at_key rk))
          where
            by : (l ≡ at_key h) ⊎ (l ≢ at_key h) → (l ≡ at_key rk) ⊎ (l ≢ at_key rk) → value_at s2 (flip (at_key h) (at_key rk) l) ≡ Some w
            by (inl z) f = let r : Some w ≡ Some (task_v u R) = sym i ∙ ap (value_at s1) z ∙ ap Some was_h in let o : w ≡ task_v u R = cc in absurd ((subst (ButTask u) o b) refl)
            by (inr nh) (inl z) = ap (λ r. value_at s2 (flip (at_key h) (at_key rk) r)) z ∙ ap (value_at s2) (flip_second (at_key h) (at_key rk)) ∙ ap Some (now_h ∙ sym was_rk) ∙ sym (ap (value_at s1) z) ∙ i
            by (inr nh) (inr nr) = ap (value_at s2) (flip_third (at_key h) (at_key rk) l nh nr) ∙ same l nh nr ∙ i

        back : (l : Location) (w : Val) → ButTask u w → value_at s2 l ≡ Some w → value_at s1 (flip (at_key h) (at_key rk) l) ≡ Some w
        back l w b i = by (decide_location l (at_key h)) (decide_location l (at_key rk))
          where
            by : (l ≡ at_key h) ⊎ (l ≢ at_key h) → (l ≡ at_key rk) ⊎ (l ≢ at_key rk) → value_at s1 (flip (at_key h) (at_key rk) l) ≡ Some w
            by (inl z) f = ap (λ r. value_at s1 (flip (at_key h) (at_key rk) r)) z ∙ ap (value_at s1) (flip_first (at_key h) (at_key rk)) ∙ ap Some (was_rk ∙ sym now_h) ∙ sym (ap (value_at s2) z) ∙ i
            by (inr nh) (inl z) = let r : Some w ≡ Some gone_v = sym i ∙ ap (value_at s2) z ∙ ap Some now_rk in let o : w ≡ gone_v = cc in absurd (subst (ButTask u) o b)
            by (inr nh) (inr nr) = ap (value_at s1) (flip_third (at_key h) (at_key rk) l nh nr) ∙ sym (same l nh nr) ∙ i

    one_task : OneTask s2
    one_task l m w p q i j =
        ⊎_elim (λ (z : w ≡ u). absurd (no_task l p (subst (λ n. value_at s2 l ≡ Some (task_v n p)) z i)))
        (λ (ne : w ≢ u). sym (carried.to_from l) ∙ ap carried.to (at.state.one_task (carried.from l) (carried.from m) w p q (carried.back l (task_v w p) ne i) (carried.back m (task_v w q) ne j)) ∙ carried.to_from m) (decide_number w u)

    -- WHO IS KEPT

    was_owed : IsOwed a u
    was_owed = at.state.tasks_owed (at_key h) u R (ap Some was_h)

    kept_to : (w : ℕ) → w ≢ u → IsKept (a.thread w) → IsKept (a2.thread w)
    kept_to w nu z = ⊎_elim (λ (q : w ≡ t). subst (λ n. IsKept (a2.thread n)) (sym q) (subst IsKept (sym now) (kept_still (a.thread t) x2 (subst (λ n. IsKept (a.thread n)) q z)))) (λ (ne : w ≢ t). subst IsKept (sym (others w ne nu)) z) (decide_number w t)

    not_over : (w : ℕ) → IsKept (a2.thread w) → w ≢ u
    not_over w z q = subst IsKept (ap a2.thread q ∙ ends) z

    kept_back : (w : ℕ) → IsKept (a2.thread w) → IsKept (a.thread w)
    kept_back w z = ⊎_elim (λ (q : w ≡ t). subst (λ n. IsKept (a.thread n)) (sym q) (kept_before (a.thread t) x2 (subst IsKept now (subst (λ n. IsKept (a2.thread n)) q z)))) (λ (ne : w ≢ t). subst IsKept (others w ne (not_over w z)) z) (decide_number w t)

    branch : (p b : ℕ) → WaitsFor a p b → IsBranch y a p b → IsBranch y a2 p b
    branch p b w d = record { kept = kept_to b (λ q. was_owed.free p (subst (WaitsFor a p) q w)) d.kept; gives = d.gives; only = λ q r. d.only q (waits_same a2 a (λ z. sym (pairs z)) q b r); below = d.below }

    branches : (p b c : ℕ) → a2.pair p ≡ Some (b, c) → (b ≢ c) × IsBranch y a2 p b × IsBranch y a2 p c
    branches p b c z =
        let i = sym (pairs p) ∙ z in
        let d = at.state.pairs p b c i in
        (d.0, branch p b (record { first = b; second = c; pair = i; one = inl refl }) d.1, branch p c (record { first = b; second = c; pair = i; one = inr refl }) d.2)

    parents : (p b c : ℕ) → a2.pair p ≡ Some (b, c) → (w : Running Position) × (place_in (a2.thread p) ≡ Some w)
    parents p b c z =
        let d = at.state.parents p b c (sym (pairs p) ∙ z) in
        (d.0, place_other p (λ q. let two : ℕ × ℕ = (b, c) in let f : None ≡ Some two = sym alone ∙ ap a.pair (sym q) ∙ sym (pairs p) ∙ z in cc) ∙ d.1)

    owed_to : (w : ℕ) → w ≢ u → IsOwed a w → IsOwed a2 w
    owed_to w nu d = record { free = λ p r. d.free p (waits_same a2 a (λ z. sym (pairs z)) p w r); kept = kept_to w nu d.kept }

    owed_back : (w : ℕ) → IsOwed a2 w → IsOwed a w
    owed_back w d = record { free = λ p r. d.free p (waits_same a a2 pairs p w r); kept = kept_back w d.kept }

    results : (w : ℕ) (r : Value) → a2.thread w ≡ Some (ended r) → E2 (result_k w) ≡ owns (tree_of (y.gives.result w))
    results w r z =
        ⊎_elim (λ (q : w ≡ t). absurd (none_ended (a.thread t) x x2 r at.runs (sym now ∙ ap a2.thread (sym q) ∙ z)))
        (λ (ne : w ≢ t). ⊎_elim (λ (q : w ≡ u). let f : Some over ≡ Some (ended r) = sym ends ∙ ap a2.thread (sym q) ∙ z in absurd cc)
        (λ (nu : w ≢ u). off (result_k w) (λ q. cc) (λ q. let f : w ≡ u = cc in nu f) ∙ at.state.results w r (sym (others w ne nu) ∙ z)) (decide_number w u)) (decide_number w t)

    self : T t ≡ true
    self = eq_cases (λ b. b ≡ true) t t (λ q. refl) (λ ne. absurd (ne refl))

    other_keys : (j : Key) → theirs T j ≡ false → E2 j ≡ y.exact j
    other_keys j z = off j (λ q. let f : true ≡ false = sym self ∙ sym (ap (theirs T) q) ∙ z in cc) (λ q. let f : true ≡ false = sym (ap (theirs T) q) ∙ z in cc)

    mine : (w : ℕ) (z : Running Position) → w ≡ t → place_in (a2.thread w) ≡ Some z → RunningCore (typing_with y E2 y.marks) s2 w (a2.pair w) z
    mine w z q i =
        let f : Some x2 ≡ Some z = sym runs_two ∙ ap (λ n. place_in (a2.thread n)) (sym q) ∙ i in
        let is : x2 ≡ z = cc in
        subst (λ n. RunningCore (typing_with y E2 y.marks) s2 n (a2.pair n) z) (sym q) (subst (λ n. RunningCore (typing_with y E2 y.marks) s2 t (a2.pair t) n) is core)

    pub joined_typed : PositionTypes (typing_with y E2 y.marks) a2
    joined_typed = turns_typed at.state (record {
      typed = typed;
      mine = λ w z q i. mine w z (same_by w t q) i;
      others = λ w z q i. sym (place_other w (other_by w t q)) ∙ i;
      pairs = λ w q. pairs w;
      same = other_keys;
      of = of_by y a a2 T E2 at.state refs;
      near = near_by y a a2 T E2 at.state refs (λ w b i. pairs w ∙ i);
      named = named_by y a a2 T E2 at.state refs;
      nobody = nobody_by y a T at.state (λ w q. ap a.pair (same_by w t q) ∙ alone);
      marks = λ w i q. refl;
      held = λ w i m z q runs mark. held w i m z runs mark;
      results = results;
      branches = branches;
      parents = parents;
      there = there_by y a a2 E2 (ButTask u) at.state stays carried (λ m q. tt);
      mutexes = mutexes_by y a a2 E2 (ButTask u) at.state stays carried (λ m q. tt) (λ m. off (content_k m.home m.count) (λ q. cc) (λ q. cc));
      one_task = one_task;
      tasks_owed = λ l w r z. ⊎_elim (λ (q : w ≡ u). absurd (no_task l r (subst (λ n. value_at s2 l ≡ Some (task_v n r)) q z))) (λ (ne : w ≢ u). owed_to w ne (at.state.tasks_owed (carried.from l) w r (carried.back l (task_v w r) ne z))) (decide_number w u);
      owed_stand = λ w d. let f = at.state.owed_stand w (owed_back w d) in (carried.to f.0, f.1, carried.there f.0 (task_v w f.1) (not_over w d.kept) f.2);
      objects_there = objects_by y a a2 E2 (ButTask u) at.state stays carried (λ o. tt);
      objects_owned = owned_by y a a2 E2 (ButTask u) at.state stays carried (λ o. tt);
      objects_made = stays.made;
    })
