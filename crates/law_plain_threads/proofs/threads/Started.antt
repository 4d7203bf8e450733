-- A thread was started without slots, and its task came to hand: the state is typed again.
use Rattle.std.proofs.Common.{◌≡◌, ◌≢◌, ◌⊎◌, inl, inr, ⊎_elim, ◌∙◌, ap₂, ℕ, suc, ◌<◌, Bool, true, false, List, [], ◌∷◌, length, Some, None, refl, sym, ap, subst, arith}
use Rattle.fr_base.specs.declared.label.Plain.TheVariants as plain
use Rattle.fr_base.specs.declared.name.MutexNo.{MutexNo}
use Rattle.fr_typing.specs.Kinds.{Owned, task, Kind, own, whole}
use Rattle.fr_typing.specs.Places.{Env}
use Rattle.fr_store.specs.Keys.{Key, slot_k, temp_k, content_k, result_k, hand_k}
use Rattle.fr_store.specs.Store.{Location, at_key, at_object, gone_v, box_v, task_v, Store, value_at, Place}
use Rattle.fr_store.specs.Changes.{SameBut}
use Rattle.fr_store.specs.Typed.{Tree, hole, task_tree, owns, refers, KeyTypes, Typed}
use Rattle.fr_store.specs.Below.{tree_of, ExactOf}
use Rattle.fr_store.specs.Rows.{with_type}
use Rattle.fr_store.specs.Thread.{ThreadKeys, ThreadTyped}
use Rattle.fr_store.proofs.Keys.{key_same, key_other, decide_number}
use Rattle.fr_store.proofs.Chains.{decide_location}
use Rattle.fr_store.proofs.Rows.{top_fits}
use Rattle.fr_store.proofs.ThreadKept.{known_tree}
use Rattle.fr_plain.specs.declared.value.Value.TheVariants.{Own, Held}
use Rattle.fr_plain.specs.State.{slot_at}
use Rattle.fr_plain.specs.MachineThreads.{owing}
use Rattle.fr_plain.specs.PlainState.{Running, PlainState, place_in}
use Rattle.fr_sound.specs.Entries.{Entry, going}
use Rattle.fr_sound.specs.Seen.{seen_cell, OneTask}
use Rattle.fr_sound.specs.States.{Typing, RunningTyped, slot_val, temp_val, result_val, content_val, env_at, is_hidden, IsLock, IsKept, IsBranch, IsOwed}
use Rattle.law_plain_values.specs.acts.Positions.{Position, Knows, temps_of, PositionTypes}
use Rattle.law_plain_values.proofs.acts.Lower.{seen_as, seen_is}
use Rattle.law_plain_values.proofs.acts.OneThread.{store, typing_with, CarriedOf, RunningCore, with_running, runs_still, kept_before, waits_same}
use Rattle.law_plain_values.proofs.acts.Turns.{theirs, nobody_by, turns_typed}
use Rattle.law_plain_values.proofs.acts.Focus.{top_some, hand_at, Focus, unfocus, temp_is, temp_free}
use Rattle.law_plain_values.proofs.acts.AtHand.{mark_off, result_same}
use Rattle.law_plain_values.proofs.acts.Flat.{flat_typed}
use Rattle.law_plain_values.proofs.acts.Hand.{At, rehung, pushed_others, pushed_here}
use Rattle.law_plain_values.proofs.acts.Stays.{Stays, there_by, mutexes_by, objects_by, owned_by, of_by, near_by, named_by}
use Rattle.law_plain_values.proofs.acts.Threads.{no_pair}
use Rattle.law_plain_threads.proofs.threads.Fates.{Fate, goes_on, comes, kept_to, ended_back, runs_to, mark_to, mark_back}
use Rattle.fr_base.specs.declared.name.ObjNo.{ObjNo}
use Rattle.fr_base.specs.declared.label.Plain.{Plain}
use Rattle.law_plain_threads.proofs.threads.Joined.{ButTask}
use Rattle.law_plain_values.proofs.acts.Fresh.{either, either_first, either_is, either_not, none_waits, none_for, none_task, none_slot, none_temp, none_result, hole_slot, hole_temp, free_slot, new_core}

module _ (y : Typing) (a a2 : PlainState Position) (t u : ℕ) (x : Running Position) (e : Env) (us : List Kind) (g k : Owned) (p : Position) (at : At y a t x e us g) (fc : Focus y a t e us None) (none : a.thread u ≡ None) (gives_is : y.gives.result u ≡ k) (keys : ThreadKeys (slot_k u) y.rank (temp_k u 0)) (entry : p.entry ≡ going [] [] k) (temps : p.temps ≡ []) where
  abbrev h : Key
  h = hand_at t us

  abbrev K : Tree
  K = tree_of k

  abbrev x2 : Running Position
  x2 = record { place = record { entry = going e (own (task k) ∷ us) g; temps = Own (plain.Task u) ∷ x.place.temps }; slots = x.slots }

  abbrev xu : Running Position
  xu = record { place = p; slots = [] }

  abbrev E2 : KeyTypes
  E2 = with_type y.exact (hand_at t us) (owns (task_tree (tree_of k)))

  abbrev s1 : Store
  s1 = store y a

  abbrev s2 : Store
  s2 = store (typing_with y E2 y.marks) a2

  module _ (now : a2.thread t ≡ with_running (a.thread t) x2) (new : a2.thread u ≡ Some (owing xu)) (others : (w : ℕ) → w ≢ t → w ≢ u → a2.thread w ≡ a.thread w) (pairs : (w : ℕ) → a2.pair w ≡ a.pair w) (mutexes : (m : MutexNo) → a2.mutex m ≡ a.mutex m) (given : (m : MutexNo) → a2.is_given m ≡ a.is_given m) (objects : (o : ObjNo) → a2.object o ≡ a.object o)
      (made : (o : ObjNo) (v : Plain) (w : Running Position) → a2.object o ≡ Some v → place_in (a2.thread o.thread) ≡ Some w → o.count < a2.made o.thread) where
    run : RunningTyped Knows temps_of y s1 t (a.pair t) x
    run = at.state.threads t x at.runs

    e_is : run.entry ≡ going e us g
    e_is = sym run.known ∙ at.entry

    alone : a.pair t ≡ None
    alone = no_pair at

    long : length x.place.temps ≡ length us
    long = run.all_temps ∙ ap (λ (z : Entry). length z.temps) e_is

    runs_two : place_in (a2.thread t) ≡ Some x2
    runs_two = ap place_in now ∙ runs_still (a.thread t) x x2 at.runs

    differ : u ≢ t
    differ q = let f : None ≡ Some x = sym (ap place_in none) ∙ ap (λ z. place_in (a.thread z)) q ∙ at.runs in cc

    -- WHAT STANDS

    now_h : s2.at h ≡ task_v u K
    now_h = ap (temp_val temps_of (typing_with y E2 y.marks) t (length us)) runs_two ∙ temp_is (typing_with y E2 y.marks) t (length us) x2 ∙ ap (seen_as y.gives t gone_v) (pushed_here (Own (plain.Task u)) x.place.temps (length us) (sym long)) ∙ ap (λ z. task_v u (tree_of z)) gives_is

    was_h : s1.at h ≡ gone_v
    was_h = top_fits y.rank y.exact s1 at.state.typed h hole fc.thread.temp

    temp_two : (i : ℕ) → i ≢ length us → s2.at (temp_k t i) ≡ s1.at (temp_k t i)
    temp_two i ne =
        ap (temp_val temps_of (typing_with y E2 y.marks) t i) runs_two ∙ temp_is (typing_with y E2 y.marks) t i x2 ∙ ap (seen_as y.gives t gone_v) (pushed_others (Own (plain.Task u)) x.place.temps i (length us) (sym long) ne)
        ∙ sym (temp_is y t i x) ∙ sym (ap (temp_val temps_of y t i) at.runs)

    slot_two : (i : ℕ) → s2.at (slot_k t i) ≡ s1.at (slot_k t i)
    slot_two i = ap (slot_val temps_of (typing_with y E2 y.marks) t i) runs_two ∙ seen_is temps_of (typing_with y E2 y.marks) t i x2 ∙ sym (seen_is temps_of y t i x) ∙ sym (ap (slot_val temps_of y t i) at.runs)

    new_slot : (i : ℕ) → s2.at (slot_k u i) ≡ gone_v
    new_slot i = ap (λ z. slot_val temps_of (typing_with y E2 y.marks) u i (place_in z)) new

    new_temp : (i : ℕ) → s2.at (temp_k u i) ≡ gone_v
    new_temp i = ap (λ z. temp_val temps_of (typing_with y E2 y.marks) u i (place_in z)) new ∙ temp_is (typing_with y E2 y.marks) u i xu ∙ ap (λ z. seen_as y.gives u gone_v (slot_at z i)) temps

    same : SameBut (at_key h) s1 s2
    same (at_object o) nh = ap (seen_cell y.gives) (objects o)
    same (at_key j) nh = ap Some (by j nh)
      where
        by : (j : Key) → at_key j ≢ at_key h → s2.at j ≡ s1.at j
        by (slot_k w i) nh =
            ⊎_elim (λ (q : w ≡ t). ap (λ z. s2.at (slot_k z i)) q ∙ slot_two i ∙ ap (λ z. s1.at (slot_k z i)) (sym q))
            (λ (nt : w ≢ t). ⊎_elim (λ (q : w ≡ u). ap (λ z. s2.at (slot_k z i)) q ∙ new_slot i ∙ sym (none_slot y a at.state u none i) ∙ ap (λ z. s1.at (slot_k z i)) (sym q)) (λ (nu : w ≢ u). ap (λ z. slot_val temps_of y w i (place_in z)) (others w nt nu)) (decide_number w u)) (decide_number w t)
        by (temp_k w i) nh =
            ⊎_elim (λ (q : w ≡ t). ap (λ z. s2.at (temp_k z i)) q ∙ temp_two i (λ f. nh (ap₂ (λ z n. at_key (temp_k z n)) q f)) ∙ ap (λ z. s1.at (temp_k z i)) (sym q))
            (λ (nt : w ≢ t). ⊎_elim (λ (q : w ≡ u). ap (λ z. s2.at (temp_k z i)) q ∙ new_temp i ∙ sym (none_temp y a at.state u none i) ∙ ap (λ z. s1.at (temp_k z i)) (sym q)) (λ (nu : w ≢ u). ap (λ z. temp_val temps_of y w i (place_in z)) (others w nt nu)) (decide_number w u)) (decide_number w t)
        by (content_k m c) nh = ap (content_val y.gives) (mutexes (record { home = m; count = c }))
        by (result_k w) nh =
            ⊎_elim (λ (q : w ≡ t). ap (λ z. s2.at (result_k z)) q ∙ ap (result_val temps_of y t) now ∙ result_same y t (a.thread t) x x2 at.runs ∙ ap (λ z. s1.at (result_k z)) (sym q))
            (λ (nt : w ≢ t). ⊎_elim (λ (q : w ≡ u). ap (λ z. s2.at (result_k z)) q ∙ ap (result_val temps_of y u) new ∙ sym (none_result y a at.state u none) ∙ ap (λ z. s1.at (result_k z)) (sym q)) (λ (nu : w ≢ u). ap (result_val temps_of y w) (others w nt nu)) (decide_number w u)) (decide_number w t)
        by (hand_k w) nh = refl

    -- TYPES

    is_two : E2 h ≡ owns (task_tree K)
    is_two = key_same h (owns (task_tree K)) (y.exact h)

    off : (j : Key) → j ≢ h → E2 j ≡ y.exact j
    off j nh = key_other j h (owns (task_tree K)) (y.exact j) nh

    refs : (j : Key) (q : Bool) (w : Place) → E2 j ≡ refers q w → y.exact j ≡ refers q w
    refs j q w z = known_tree (slot_k t) h y.exact h (task_tree K) j q w z

    typed : Typed y.rank E2 s2
    typed = flat_typed y.rank y.exact E2 s1 s2 h (task_tree K) at.state.typed fc.thread.quiet off same is_two (u, now_h) (λ i. refl) (λ o q. let r : task_v u K ≡ box_v o = sym now_h ∙ q in cc)

    thread : ThreadTyped (slot_k t) y.rank h e E2 s2 (Some (own (task k)))
    thread = rehung (slot_k t) y.rank h e y.exact s1 s2 None (Some (own (task k))) (owns (task_tree K)) fc.keys fc.thread typed (subst (ExactOf (slot_k t) E2 (whole (own (task k)))) (sym is_two) refl) tt (λ m w q. absurd cc)

    held : (w i : ℕ) (m : MutexNo) (z : Running Position) → place_in (a.thread w) ≡ Some z → slot_at z.slots i ≡ Some (Held m) → value_at s2 (y.marks w i) ≡ value_at s1 (y.marks w i)
    held w i m z runs r = same (y.marks w i) (mark_off y a w i m z h at.state runs r fc.thread.quiet)

    core : RunningCore (typing_with y E2 y.marks) s2 t (a2.pair t) x2
    core =
        unfocus y a a2 t e e us (own (task k) ∷ us) None (Some (own (task k))) g E2 y.marks x2 fc top_some (λ q. cc) thread (λ i il. off (temp_k t i) (λ q. let f : i ≡ length us = cc in omega (arith, il, f)))
        (λ n j m w z. temp_free y a t n at.state j m w (refs j m w z)) (λ i il n. fc.high i n (omega (arith, il))) refl (ap (λ (z : Entry). z.gives) (sym e_is) ∙ run.gives) (pairs t ∙ alone)
        (run.all_slots ∙ ap (λ (z : Entry). length z.env) e_is) (ap suc long)
        (λ i. ap (λ (z : Entry). is_hidden (env_at z.env i)) (sym e_is) ∙ run.hidden i)
        (λ i m z. let lock = subst (λ (r : Entry). IsLock y s1 r.env t i m) e_is (run.marked i m z) in record { leads = held t i m x at.runs z ∙ lock.leads; unnamed = λ j b w r. lock.unnamed j b w (refs j b w r); content = lock.content })

    fresh : RunningCore (typing_with y E2 y.marks) s2 u (a2.pair u) xu
    fresh =
        new_core y (typing_with y E2 y.marks) s2 u p k (a2.pair u) typed (λ i. off (slot_k u i) (λ q. cc) ∙ hole_slot y a at.state u none i) (λ i j m w z. free_slot y a at.state u none i j m w (refs j m w z))
        (off (temp_k u 0) (λ q. let f : u ≡ t = cc in differ f) ∙ hole_temp y a at.state u none 0) (λ j m w z. temp_free y a u 0 at.state j m w (refs j m w z)) keys entry temps gives_is (pairs u ∙ none_waits y a at.state u none)

    mine : (w : ℕ) (z : Running Position) → (w ≡ t) ⊎ (w ≡ u) → place_in (a2.thread w) ≡ Some z → RunningCore (typing_with y E2 y.marks) s2 w (a2.pair w) z
    mine w z (inl q) i =
        let f : Some x2 ≡ Some z = sym runs_two ∙ ap (λ n. place_in (a2.thread n)) (sym q) ∙ i in
        let is : x2 ≡ z = cc in
        subst (λ n. RunningCore (typing_with y E2 y.marks) s2 n (a2.pair n) z) (sym q) (subst (λ n. RunningCore (typing_with y E2 y.marks) s2 t (a2.pair t) n) is core)
    mine w z (inr q) i =
        let f : Some xu ≡ Some z = sym (ap place_in new) ∙ ap (λ n. place_in (a2.thread n)) (sym q) ∙ i in
        let is : xu ≡ z = cc in
        subst (λ n. RunningCore (typing_with y E2 y.marks) s2 n (a2.pair n) z) (sym q) (subst (λ n. RunningCore (typing_with y E2 y.marks) s2 u (a2.pair u) n) is fresh)

    -- TASKS

    carried : CarriedOf (ButTask u) s1 s2
    carried = record {
      to = λ l. l;
      from = λ l. l;
      from_to = λ l. refl;
      to_from = λ l. refl;
      there = λ l v b i. ⊎_elim (λ (q : l ≡ at_key h). let f : Some v ≡ Some gone_v = sym i ∙ ap (value_at s1) q ∙ ap Some was_h in let r : v ≡ gone_v = cc in absurd (subst (ButTask u) r b)) (λ (ne : l ≢ at_key h). same l ne ∙ i) (decide_location l (at_key h));
      back = λ l v b i. ⊎_elim (λ (q : l ≡ at_key h). let f : Some v ≡ Some (task_v u K) = sym i ∙ ap (value_at s2) q ∙ ap Some now_h in let r : v ≡ task_v u K = cc in absurd ((subst (ButTask u) r b) refl)) (λ (ne : l ≢ at_key h). sym (same l ne) ∙ i) (decide_location l (at_key h));
    }

    only_task : (l : Location) (r : Tree) → value_at s2 l ≡ Some (task_v u r) → l ≡ at_key h
    only_task l r z = ⊎_elim (λ (q : l ≡ at_key h). q) (λ (ne : l ≢ at_key h). absurd (none_task y a at.state u none l r (sym (same l ne) ∙ z))) (decide_location l (at_key h))

    one_task : OneTask s2
    unfolding carried
    one_task l m w v q i j =
        ⊎_elim (λ (z : w ≡ u). only_task l v (subst (λ n. value_at s2 l ≡ Some (task_v n v)) z i) ∙ sym (only_task m q (subst (λ n. value_at s2 m ≡ Some (task_v n q)) z j)))
        (λ (ne : w ≢ u). at.state.one_task l m w v q (carried.back l (task_v w v) ne i) (carried.back m (task_v w q) ne j)) (decide_number w u)

    -- WHO IS KEPT

    fates : (w : ℕ) → either t u w ≡ true → Fate a a2 w
    fates w q = by (either_is t u w q)
      where
        by : (w ≡ t) ⊎ (w ≡ u) → Fate a a2 w
        by (inl f) = subst (Fate a a2) (sym f) (goes_on (record { before = x; after = x2; runs = at.runs; now = now; marked = λ i m h. h; still = λ i m h. h }))
        by (inr f) = subst (Fate a a2) (sym f) (comes (record { none = none; after = xu; now = new; empty = refl }))

    beyond : (w : ℕ) → either t u w ≡ false → a2.thread w ≡ a.thread w
    beyond w q = let ne = either_not t u w q in others w ne.0 ne.1

    stays : Stays a a2
    stays = record { mutexes = mutexes; given = given; objects = objects; marks_to = mark_to fates beyond; marks_back = mark_back fates beyond; made = made }

    kept_back : (w : ℕ) → w ≢ u → IsKept (a2.thread w) → IsKept (a.thread w)
    kept_back w nu z = ⊎_elim (λ (q : w ≡ t). subst (λ n. IsKept (a.thread n)) (sym q) (kept_before (a.thread t) x2 (subst IsKept now (subst (λ n. IsKept (a2.thread n)) q z)))) (λ (nt : w ≢ t). subst IsKept (others w nt nu) z) (decide_number w t)

    branch : (p b : ℕ) → IsBranch y a p b → IsBranch y a2 p b
    branch p b d = record { kept = kept_to fates beyond b d.kept; gives = d.gives; only = λ q r. d.only q (waits_same a2 a (λ z. sym (pairs z)) q b r); below = d.below }

    owed_to : (w : ℕ) → IsOwed a w → IsOwed a2 w
    owed_to w d = record { free = λ q r. d.free q (waits_same a2 a (λ z. sym (pairs z)) q w r); kept = kept_to fates beyond w d.kept }

    owed_back : (w : ℕ) → w ≢ u → IsOwed a2 w → IsOwed a w
    owed_back w nu d = record { free = λ q r. d.free q (waits_same a a2 pairs q w r); kept = kept_back w nu d.kept }

    owed_new : IsOwed a2 u
    owed_new = record { free = λ q r. none_for y a at.state u none q (waits_same a2 a (λ z. sym (pairs z)) q u r); kept = subst IsKept (sym new) tt }

    other_keys : (j : Key) → theirs (either t u) j ≡ false → E2 j ≡ y.exact j
    other_keys j z = off j (λ q. let f : true ≡ false = sym (either_first t u) ∙ sym (ap (theirs (either t u)) q) ∙ z in cc)

    no_pairs : (w : ℕ) → (w ≡ t) ⊎ (w ≡ u) → a.pair w ≡ None
    no_pairs w (inl q) = ap a.pair q ∙ alone
    no_pairs w (inr q) = ap a.pair q ∙ none_waits y a at.state u none

    pub started_typed : PositionTypes (typing_with y E2 y.marks) a2
    unfolding carried
    started_typed = turns_typed at.state (record {
      typed = typed;
      mine = λ w z q i. mine w z (either_is t u w q) i;
      others = λ w z q i. sym (ap place_in (beyond w q)) ∙ i;
      pairs = λ w q. pairs w;
      same = other_keys;
      of = of_by y a a2 (either t u) E2 at.state refs;
      near = near_by y a a2 (either t u) E2 at.state refs (λ w b i. pairs w ∙ i);
      named = named_by y a a2 (either t u) E2 at.state refs;
      nobody = nobody_by y a (either t u) at.state (λ w q. no_pairs w (either_is t u w q));
      marks = λ w i q. refl;
      held = λ w i m z q runs mark. held w i m z runs mark;
      results = λ w r z. off (result_k w) (λ q. cc) ∙ at.state.results w r (ended_back fates beyond w r z);
      branches = λ p b c z. let d = at.state.pairs p b c (sym (pairs p) ∙ z) in (d.0, branch p b d.1, branch p c d.2);
      parents = λ p b c z. let d = at.state.parents p b c (sym (pairs p) ∙ z) in runs_to fates beyond p d.0 d.1;
      there = there_by y a a2 E2 (ButTask u) at.state stays carried (λ m q. tt);
      mutexes = mutexes_by y a a2 E2 (ButTask u) at.state stays carried (λ m q. tt) (λ m. off (content_k m.home m.count) (λ q. cc));
      one_task = one_task;
      tasks_owed = λ l w r z. ⊎_elim (λ (q : w ≡ u). subst (IsOwed a2) (sym q) owed_new) (λ (ne : w ≢ u). owed_to w (at.state.tasks_owed l w r (carried.back l (task_v w r) ne z))) (decide_number w u);
      owed_stand = λ w d. ⊎_elim (λ (q : w ≡ u). (at_key h, K, ap Some now_h ∙ ap (λ n. Some (task_v n K)) (sym q))) (λ (ne : w ≢ u). let f = at.state.owed_stand w (owed_back w ne d) in (f.0, f.1, carried.there f.0 (task_v w f.1) ne f.2)) (decide_number w u);
      objects_there = objects_by y a a2 E2 (ButTask u) at.state stays carried (λ o. tt);
      objects_owned = owned_by y a a2 E2 (ButTask u) at.state stays carried (λ o. tt);
      objects_made = made;
    })
