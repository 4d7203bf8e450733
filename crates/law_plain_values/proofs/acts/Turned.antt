-- A change of one thread, where what is counted is told sum by sum, leaves a typed state.
use Rattle.std.proofs.Common.{◌≡◌, ◌≢◌, ◌⊎◌, inl, inr, ⊎_elim, ◌∙◌, ℕ, Bool, true, false, Some, refl, sym, ap, subst}
use Rattle.std.specs.Prelude.{◌==◌}
use Rattle.fr_typing.proofs.PlaceLemmas.{eq_cases}
use Rattle.fr_store.specs.Keys.{Key, slot_k, temp_k, content_k, result_k, hand_k}
use Rattle.fr_store.specs.Store.{Location, Store, Place}
use Rattle.fr_store.specs.Typed.{refers, KeyTypes}
use Rattle.fr_store.proofs.Keys.{decide_number}
use Rattle.fr_plain.specs.PlainState.{Running, PlainState, place_in}
use Rattle.fr_sound.specs.States.{Typing, IsNear, IsKept, IsBranch, thread_of_key, IsOwed}
use Rattle.law_plain_values.specs.acts.Positions.{Position, PositionTypes}
use Rattle.law_plain_values.proofs.acts.Turns.{theirs, nobody_by, turns_typed}
use Rattle.law_plain_values.proofs.acts.OneThread.{store, typing_with, RunningCore, same_by, other_by, by_bool, touched, Turn, runs_still, kept_still, kept_before, none_ended, waits_same, near_same}

-- what isn't touched is not the thread's
pub untouched_other : (t : ℕ) (k : Key) → touched t k ≡ false → thread_of_key k ≢ Some t
untouched_other t (slot_k u i) h e = let f : u ≡ t = cc in other_by u t h f
untouched_other t (temp_k u i) h e = let f : u ≡ t = cc in other_by u t h f
untouched_other t (content_k a c) h e = cc
untouched_other t (result_k u) h e = cc
untouched_other t (hand_k u) h e = let f : u ≡ t = cc in other_by u t h f

-- what is touched and refers is the thread's, where what isn't the thread's referred before: no content's type refers
pub touched_own : (y : Typing) (a : PlainState Position) (t : ℕ) (k : Key) (m : Bool) (u : Place) → PositionTypes y a → touched t k ≡ true → (thread_of_key k ≢ Some t → y.exact k ≡ refers m u) → thread_of_key k ≡ Some t
touched_own y a t (slot_k v i) m u st h is = ap Some (same_by v t h)
touched_own y a t (temp_k v i) m u st h is = ap Some (same_by v t h)
touched_own y a t (content_k z c) m u st h is = let n = st.near (content_k z c) m u (is (λ g. cc)) in let f = n.of in cc
touched_own y a t (result_k v) m u st h is = cc
touched_own y a t (hand_k v) m u st h is = ap Some (same_by v t h)

-- what a change of other threads' keys may touch is touched, but for results
touched_by : (t : ℕ) (k : Key) → theirs (λ u. u == t) k ≡ false → touched t k ≡ false
touched_by t (slot_k u i) h = h
touched_by t (temp_k u i) h = h
touched_by t (content_k a c) h = h
touched_by t (result_k u) h = refl
touched_by t (hand_k u) h = h

touched_or : (t : ℕ) (k : Key) → theirs (λ u. u == t) k ≡ true → (touched t k ≡ true) ⊎ ((u : ℕ) × (k ≡ result_k u))
touched_or t (slot_k u i) h = inl h
touched_or t (temp_k u i) h = inl h
touched_or t (content_k a c) h = inl h
touched_or t (result_k u) h = inr (u, refl)
touched_or t (hand_k u) h = inl h

module _ {y : Typing} {a a2 : PlainState Position} {t : ℕ} {x x2 : Running Position} {E2 : KeyTypes} {M2 : ℕ → ℕ → Location} (st : PositionTypes y a) (c : Turn y a a2 t x x2 E2 M2) where
  abbrev y2 : Typing
  y2 = typing_with y E2 M2

  abbrev s2 : Store
  s2 = store (typing_with y E2 M2) a2

  pairs_back : (u : ℕ) → a.pair u ≡ a2.pair u
  pairs_back u = sym (c.pairs u)

  -- the thread goes on
  now_runs : place_in (a2.thread t) ≡ Some x2
  now_runs = ap place_in c.now ∙ runs_still (a.thread t) x x2 c.was

  self : (t == t) ≡ true
  self = eq_cases (λ b. b ≡ true) t t (λ e. refl) (λ ne. absurd (ne refl))

  no_result : (k : Key) (m : Bool) (u : Place) → E2 k ≡ refers m u → (w : ℕ) × (k ≡ result_k w) → ⊥
  no_result k m u is w = let n = st.near (result_k w.0) m u (sym (c.same (result_k w.0) refl) ∙ ap E2 (sym w.1) ∙ is) in let f = n.of in cc

  -- WHAT IS NAMED

  near_two : (k : Key) (m : Bool) (u : Place) → E2 k ≡ refers m u → IsNear a k u
  near_two k m u is = by_bool (touched t k) (λ h. mine (c.of k m u h is)) (λ h. st.near k m u (sym (c.same k h) ∙ is))
    where
      mine : thread_of_key k ≡ Some t → IsNear a k u
      mine h = by (c.names k m u h is)
        where
          by : ((i : ℕ) × (u.key ≡ slot_k t i)) ⊎ ((j : Key) × (thread_of_key j ≡ Some t) × (y.exact j ≡ refers m u)) → IsNear a k u
          by (inl z) = record { thread = t; of = h; owner = t; slot = z.0; is = z.1; near = inl refl }
          by (inr z) =
              let n = st.near z.0 m u z.2 in
              let same : n.thread ≡ t = let f : Some n.thread ≡ Some t = sym n.of ∙ z.1 in cc in
              record { thread = n.thread; of = h ∙ ap Some (sym same); owner = n.owner; slot = n.slot; is = n.is; near = n.near }

  of_two : (k : Key) (m : Bool) (u : Place) → theirs (λ w. w == t) k ≡ true → E2 k ≡ refers m u → thread_of_key k ≡ Some t
  of_two k m u h is = by (touched_or t k h)
    where
      by : (touched t k ≡ true) ⊎ ((w : ℕ) × (k ≡ result_k w)) → thread_of_key k ≡ Some t
      by (inl g) = c.of k m u g is
      by (inr w) = absurd (no_result k m u is w)

  named_two : (k : Key) (m : Bool) (u : Place) → thread_of_key k ≡ Some t → E2 k ≡ refers m u → ((w : ℕ) × (i : ℕ) × ((w == t) ≡ true) × (u.key ≡ slot_k w i)) ⊎ ((j : Key) × (y.exact j ≡ refers m u))
  named_two k m u h is = by (c.names k m u h is)
    where
      by : ((i : ℕ) × (u.key ≡ slot_k t i)) ⊎ ((j : Key) × (thread_of_key j ≡ Some t) × (y.exact j ≡ refers m u)) → ((w : ℕ) × (i : ℕ) × ((w == t) ≡ true) × (u.key ≡ slot_k w i)) ⊎ ((j : Key) × (y.exact j ≡ refers m u))
      by (inl z) = inl (t, z.0, self, z.1)
      by (inr z) = inr (z.0, z.2)

  -- PAIRS

  kept_two : (u : ℕ) → IsKept (a.thread u) → IsKept (a2.thread u)
  kept_two u h = ⊎_elim (λ (e : u ≡ t). subst (λ w. IsKept (a2.thread w)) (sym e) (subst IsKept (sym c.now) (kept_still (a.thread t) x2 (subst (λ w. IsKept (a.thread w)) e h)))) (λ (ne : u ≢ t). subst IsKept (sym (c.others u ne)) h) (decide_number u t)

  kept_one : (u : ℕ) → IsKept (a2.thread u) → IsKept (a.thread u)
  kept_one u h = ⊎_elim (λ (e : u ≡ t). subst (λ w. IsKept (a.thread w)) (sym e) (kept_before (a.thread t) x2 (subst IsKept c.now (subst (λ w. IsKept (a2.thread w)) e h)))) (λ (ne : u ≢ t). subst IsKept (c.others u ne) h) (decide_number u t)

  branch_two : (p b : ℕ) → IsBranch y a p b → IsBranch y a2 p b
  branch_two p b h = record { kept = kept_two b h.kept; gives = h.gives; only = λ q w. h.only q (waits_same a2 a pairs_back q b w); below = h.below }

  pairs_two : (p b d : ℕ) → a2.pair p ≡ Some (b, d) → (b ≢ d) × IsBranch y a2 p b × IsBranch y a2 p d
  pairs_two p b d e = let h = st.pairs p b d (pairs_back p ∙ e) in (h.0, branch_two p b h.1, branch_two p d h.2)

  parents_two : (p b d : ℕ) → a2.pair p ≡ Some (b, d) → (w : Running Position) × (place_in (a2.thread p) ≡ Some w)
  parents_two p b d e =
      let h = st.parents p b d (pairs_back p ∙ e) in
      ⊎_elim (λ (s : p ≡ t). (x2, ap (λ z. place_in (a2.thread z)) s ∙ now_runs)) (λ (ne : p ≢ t). (h.0, ap place_in (c.others p ne) ∙ h.1)) (decide_number p t)

  -- TASKS

  owed_two : (u : ℕ) → IsOwed a u → IsOwed a2 u
  owed_two u h = record { free = λ p w. h.free p (waits_same a2 a pairs_back p u w); kept = kept_two u h.kept }

  owed_one : (u : ℕ) → IsOwed a2 u → IsOwed a u
  owed_one u h = record { free = λ p w. h.free p (waits_same a a2 c.pairs p u w); kept = kept_one u h.kept }

  -- THE STATE
  pub turn_typed : PositionTypes (typing_with y E2 M2) a2
  turn_typed = turns_typed st (record {
    typed = c.typed;
    mine = λ u w h e. mine u w (same_by u t h) e;
    others = λ u w h e. sym (ap place_in (c.others u (other_by u t h))) ∙ e;
    pairs = λ u h. c.pairs u;
    same = λ k h. c.same k (touched_by t k h);
    of = λ k m u h is. (t, self, of_two k m u h is);
    near = λ k m u is. near_same a a2 c.pairs k u (near_two k m u is);
    named = λ k m u h is. named_two k m u (of_two k m u h is) is;
    nobody = nobody_by y a (λ u. u == t) st (λ u h. ap a.pair (same_by u t h) ∙ c.free);
    marks = λ u i h. c.marks u i (other_by u t h);
    held = λ u i m w h. c.held u i m w (other_by u t h);
    results = λ u v e. ⊎_elim (λ (s : u ≡ t). absurd (none_ended (a.thread t) x x2 v c.was (sym c.now ∙ ap a2.thread (sym s) ∙ e))) (λ (ne : u ≢ t). c.same (result_k u) refl ∙ st.results u v (sym (c.others u ne) ∙ e)) (decide_number u t);
    branches = pairs_two;
    parents = parents_two;
    there = c.there;
    mutexes = c.mutexes;
    one_task = c.one_task;
    tasks_owed = λ l u r e. let f = c.task_from l u r e in owed_two u (st.tasks_owed f.0 u r f.1);
    owed_stand = λ u h. let f = st.owed_stand u (owed_one u h) in c.task_to f.0 u f.1 f.2;
    objects_there = c.objects_there;
    objects_owned = c.objects_owned;
    objects_made = c.objects_made;
  })
    where
      mine : (u : ℕ) (w : Running Position) → u ≡ t → place_in (a2.thread u) ≡ Some w → RunningCore y2 s2 u (a2.pair u) w
      mine u w s e =
          let f : Some x2 ≡ Some w = sym now_runs ∙ ap (λ z. place_in (a2.thread z)) (sym s) ∙ e in
          let g : x2 ≡ w = cc in
          subst (λ z. RunningCore y2 s2 z (a2.pair z) w) (sym s) (subst (λ z. RunningCore y2 s2 t (a2.pair t) z) g c.mine)
