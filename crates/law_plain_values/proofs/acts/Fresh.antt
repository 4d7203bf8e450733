-- A thread that isn't there: nothing stands at its keys, and no type names them; its slots may rank as one likes.
use Rattle.std.proofs.Common.{◌≡◌, ◌≢◌, ◌⊎◌, inl, inr, ◌∙◌, ℕ, zero, suc, ◌+◌, ◌<◌, ◌≤◌, Bool, true, false, [], length, Option, Some, None, refl, sym, ap, subst, arith}
use Rattle.std.specs.Prelude.{◌==◌, ◌||◌, if◌then◌else◌}
use Rattle.fr_typing.specs.Kinds.{Owned}
use Rattle.fr_typing.proofs.PlaceLemmas.{eq_cases}
use Rattle.fr_store.specs.Keys.{Key, slot_k, temp_k, content_k, result_k, hand_k}
use Rattle.fr_store.specs.Store.{Location, gone_v, task_v, Store, value_at, Place}
use Rattle.fr_store.specs.Typed.{Tree, hole, owns, refers, Typed, Unnamed}
use Rattle.fr_store.specs.Thread.{ThreadKeys}
use Rattle.fr_store.proofs.Keys.{decide_number}
use Rattle.fr_store.proofs.OtherThreads.{new_thread_row}
use Rattle.fr_plain.specs.PlainState.{PlainState, place_in}
use Rattle.fr_sound.specs.Entries.{going}
use Rattle.fr_sound.specs.States.{Typing, slot_val, temp_val, result_val, WaitsFor, WaitsAbove, IsNear, IsKept, thread_of_key}
use Rattle.law_plain_values.specs.acts.Positions.{Position, temps_of, PositionTypes}
use Rattle.law_plain_values.proofs.acts.OneThread.{store, RunningCore, has_pair}
use Rattle.law_plain_values.proofs.acts.Focus.{hole_there}
use Rattle.law_plain_values.proofs.acts.Raised.{ranked_by, reranked}
use Rattle.std.specs.Prelude.{is_some}

-- ONE OF TWO THREADS

abbrev pub either : ℕ → ℕ → ℕ → Bool
either t u w = w == t || w == u

pub either_first : (t u : ℕ) → either t u t ≡ true
either_first t u = eq_cases (λ b. (b || t == u) ≡ true) t t (λ e. refl) (λ ne. absurd (ne refl))

pub either_second : (t u : ℕ) → either t u u ≡ true
either_second t u = eq_cases (λ b. (u == t || b) ≡ true) u u (λ e. or_true (u == t)) (λ ne. absurd (ne refl))
  where
    or_true : (b : Bool) → (b || true) ≡ true
    or_true true = refl
    or_true false = refl

pub either_is : (t u w : ℕ) → either t u w ≡ true → (w ≡ t) ⊎ (w ≡ u)
either_is t u w = eq_cases (λ b. (b || w == u) ≡ true → (w ≡ t) ⊎ (w ≡ u)) w t (λ e h. inl e) (λ nt. eq_cases (λ b. b ≡ true → (w ≡ t) ⊎ (w ≡ u)) w u (λ e h. inr e) (λ nu h. cc))

pub either_not : (t u w : ℕ) → either t u w ≡ false → (w ≢ t) × (w ≢ u)
either_not t u w = eq_cases (λ b. (b || w == u) ≡ false → (w ≢ t) × (w ≢ u)) w t (λ e h. cc) (λ nt. eq_cases (λ b. b ≡ false → (w ≢ t) × (w ≢ u)) w u (λ e h. cc) (λ nu h. (nt, nu)))

-- A THREAD THAT ISN'T THERE

module _ (y : Typing) (a : PlainState Position) (st : PositionTypes y a) (u : ℕ) (none : a.thread u ≡ None) where
  -- it waits for nobody, and nobody for it
  pub none_waits : a.pair u ≡ None
  none_waits = by (a.pair u) refl
    where
      by : (o : Option (ℕ × ℕ)) → a.pair u ≡ o → o ≡ None
      by None e = refl
      by (Some p) e = let d = st.parents u p.0 p.1 e in let f : None ≡ Some d.0 = sym (ap place_in none) ∙ d.1 in cc

  pub not_kept : IsKept (a.thread u) → ⊥
  not_kept h = subst IsKept none h

  pub none_for : (p : ℕ) → WaitsFor a p u → ⊥
  none_for p w = by w.one
    where
      by : (u ≡ w.first) ⊎ (u ≡ w.second) → ⊥
      by (inl e) = let d = st.pairs p w.first w.second w.pair in not_kept (subst (λ z. IsKept (a.thread z)) (sym e) d.1.kept)
      by (inr e) = let d = st.pairs p w.first w.second w.pair in not_kept (subst (λ z. IsKept (a.thread z)) (sym e) d.2.kept)

  -- its task is nowhere
  pub none_task : (l : Location) (r : Tree) → value_at (store y a) l ≡ Some (task_v u r) → ⊥
  none_task l r e = not_kept ((st.tasks_owed l u r e).kept)

  -- nothing stands at its keys
  pub none_slot : (i : ℕ) → (store y a).at (slot_k u i) ≡ gone_v
  none_slot i = ap (λ z. slot_val temps_of y u i (place_in z)) none

  pub none_temp : (i : ℕ) → (store y a).at (temp_k u i) ≡ gone_v
  none_temp i = ap (λ z. temp_val temps_of y u i (place_in z)) none

  pub none_result : (store y a).at (result_k u) ≡ gone_v
  none_result = ap (result_val temps_of y u) none

  pub hole_slot : (i : ℕ) → y.exact (slot_k u i) ≡ owns hole
  hole_slot i = hole_there y.rank y.exact (store y a) (slot_k u i) st.typed (none_slot i)

  pub hole_temp : (i : ℕ) → y.exact (temp_k u i) ≡ owns hole
  hole_temp i = hole_there y.rank y.exact (store y a) (temp_k u i) st.typed (none_temp i)

  -- a reference is no key of it
  refers_else : (k : Key) (m : Bool) (w : Place) → y.exact k ≡ refers m w → thread_of_key k ≡ Some u → ⊥
  refers_else (slot_k v i) m w is e = let f : v ≡ u = cc in let g : owns hole ≡ refers m w = sym (hole_slot i) ∙ ap (λ z. y.exact (slot_k z i)) (sym f) ∙ is in absurd cc
  refers_else (temp_k v i) m w is e = let f : v ≡ u = cc in let g : owns hole ≡ refers m w = sym (hole_temp i) ∙ ap (λ z. y.exact (temp_k z i)) (sym f) ∙ is in absurd cc
  refers_else (content_k h c) m w is e = cc
  refers_else (result_k v) m w is e = cc
  refers_else (hand_k v) m w is e = let g : owns hole ≡ refers m w = sym (hole_there y.rank y.exact (store y a) (hand_k v) st.typed refl) ∙ is in absurd cc

  -- no type names its slots
  pub free_slot : (i : ℕ) → Unnamed y.exact (slot_k u i)
  free_slot i k m w is e = by n.near
    where
      n : IsNear a k w
      n = st.near k m w is

      owner : n.owner ≡ u
      owner = let f : slot_k n.owner n.slot ≡ slot_k u i = sym n.is ∙ e in cc

      by : (n.owner ≡ n.thread) ⊎ WaitsAbove a n.owner n.thread → ⊥
      by (inl z) = refers_else k m w is (n.of ∙ ap Some (sym z ∙ owner))
      by (inr z) = let p = has_pair a n.owner n.thread z in let f : Some p.0 ≡ None = sym p.1 ∙ ap a.pair owner ∙ none_waits in cc

-- RANKS

-- rising numbers, none of them less than that of f or than n
abbrev pub climb : ℕ → (ℕ → ℕ) → ℕ → ℕ
climb n f zero = n + f zero
climb n f (suc i) = suc (climb n f i) + f (suc i)

climb_more : (n : ℕ) (f : ℕ → ℕ) (i : ℕ) → f i ≤ climb n f i
climb_more n f zero = omega arith
climb_more n f (suc i) = omega arith

pub climb_above : (n : ℕ) (f : ℕ → ℕ) (i : ℕ) → n ≤ climb n f i
climb_above n f zero = omega arith
climb_above n f (suc i) = let h = climb_above n f i in omega (arith, h)

climb_rises : (n : ℕ) (f : ℕ → ℕ) (i j : ℕ) → i < j → climb n f i < climb n f j
climb_rises n f i zero l = absurd (omega (arith, l))
climb_rises n f i (suc j) l = by (λ k. climb_rises n f i j k) (decide_number i j)
  where
    by : (i < j → climb n f i < climb n f j) → (i ≡ j) ⊎ (i ≢ j) → climb n f i < suc (climb n f j) + f (suc j)
    by rest (inl e) = let g = ap (climb n f) e in omega (arith, g)
    by rest (inr ne) = let h = rest (omega (arith, l, ne)) in omega (arith, h)

-- the slots of thread u rank so
abbrev pub lifted_slots : ℕ → ℕ → (Key → ℕ) → Key → ℕ
lifted_slots n u rank (slot_k v i) = if v == u then climb n (λ j. rank (slot_k u j)) i else rank (slot_k v i)
lifted_slots n u rank (temp_k v i) = rank (temp_k v i)
lifted_slots n u rank (content_k h c) = rank (content_k h c)
lifted_slots n u rank (result_k v) = rank (result_k v)
lifted_slots n u rank (hand_k v) = rank (hand_k v)

pub lifted_here : (n u : ℕ) (rank : Key → ℕ) (i : ℕ) → lifted_slots n u rank (slot_k u i) ≡ climb n (λ j. rank (slot_k u j)) i
lifted_here n u rank i = eq_cases (λ b. (if b then climb n (λ j. rank (slot_k u j)) i else rank (slot_k u i)) ≡ climb n (λ j. rank (slot_k u j)) i) u u (λ e. refl) (λ ne. absurd (ne refl))

pub lifted_other : (n u : ℕ) (rank : Key → ℕ) (v i : ℕ) → v ≢ u → lifted_slots n u rank (slot_k v i) ≡ rank (slot_k v i)
lifted_other n u rank v i ne = eq_cases (λ b. (if b then climb n (λ j. rank (slot_k u j)) i else rank (slot_k v i)) ≡ rank (slot_k v i)) v u (λ e. absurd (ne e)) (λ z. refl)

lifted_more : (n u : ℕ) (rank : Key → ℕ) (k : Key) → rank k ≤ lifted_slots n u rank k
lifted_more n u rank (slot_k v i) =
    eq_cases (λ b. rank (slot_k v i) ≤ (if b then climb n (λ j. rank (slot_k u j)) i else rank (slot_k v i))) v u
    (λ e. subst (λ z. rank (slot_k z i) ≤ climb n (λ j. rank (slot_k u j)) i) (sym e) (climb_more n (λ j. rank (slot_k u j)) i)) (λ ne. omega arith)
lifted_more n u rank (temp_k v i) = omega arith
lifted_more n u rank (content_k h c) = omega arith
lifted_more n u rank (result_k v) = omega arith
lifted_more n u rank (hand_k v) = omega arith

-- then its keys are those of a thread
pub lifted_keys : (n u m : ℕ) (rank : Key → ℕ) → ThreadKeys (slot_k u) (lifted_slots n u rank) (temp_k u m)
lifted_keys n u m rank = record {
  differ = λ i j e. cc;
  off = λ i e. absurd cc;
  ranks = λ i j l. let p = lifted_here n u rank i in let q = lifted_here n u rank j in let r = climb_rises n (λ k. rank (slot_k u k)) i j l in omega (arith, p, q, r);
}

pub lifted_typed : (n : ℕ) (y : Typing) (a : PlainState Position) (st : PositionTypes y a) (u : ℕ) → a.thread u ≡ None → PositionTypes (ranked_by (lifted_slots n u y.rank) y) a
lifted_typed n y a st u none = reranked (lifted_slots n u y.rank) y a st (record {
  higher = lifted_more n u y.rank;
  named = λ k m w is. let z = st.near k m w is in ap (lifted_slots n u y.rank) z.is ∙ lifted_other n u y.rank z.owner z.slot (λ e. free_slot y a st u none z.slot k m w is (z.is ∙ ap (λ v. slot_k v z.slot) e)) ∙ ap y.rank (sym z.is);
  rising = λ t i j l lt. rises t i j l lt (decide_number t u);
  slots = λ t x r i runs l. lifted_other n u y.rank t i (λ e. let f : None ≡ Some x = sym (ap place_in none) ∙ ap (λ z. place_in (a.thread z)) (sym e) ∙ runs in cc);
})
  where
    rises : (t i j : ℕ) → y.rank (slot_k t i) < y.rank (slot_k t j) → i < j → (t ≡ u) ⊎ (t ≢ u) → lifted_slots n u y.rank (slot_k t i) < lifted_slots n u y.rank (slot_k t j)
    rises t i j l lt (inl e) = let p = ap (λ z. lifted_slots n u y.rank (slot_k z i)) e in let q = ap (λ z. lifted_slots n u y.rank (slot_k z j)) e in let r = (lifted_keys n u 0 y.rank).ranks i j lt in omega (arith, p, q, r)
    rises t i j l lt (inr ne) = let p = lifted_other n u y.rank t i ne in let q = lifted_other n u y.rank t j ne in omega (arith, p, q, l)

-- A NEW THREAD, without slots and temporary values
pub new_core : (y y2 : Typing) (s2 : Store) (u : ℕ) (p : Position) (k : Owned) (pair : Option (ℕ × ℕ)) → Typed y2.rank y2.exact s2 → ((i : ℕ) → y2.exact (slot_k u i) ≡ owns hole) → ((i : ℕ) → Unnamed y2.exact (slot_k u i)) → y2.exact (temp_k u 0) ≡ owns hole → Unnamed y2.exact (temp_k u 0)
    → ThreadKeys (slot_k u) y2.rank (temp_k u 0) → p.entry ≡ going [] [] k → p.temps ≡ [] → y2.gives.result u ≡ k → pair ≡ None → RunningCore y2 s2 u pair (record { place = p; slots = [] })
new_core y y2 s2 u p k pair typed holes free hand quiet keys is temps gives none = record {
  entry = going [] [] k;
  known = is;
  gives = sym gives;
  keys = keys;
  thread = new_thread_row (slot_k u) y2.rank (temp_k u 0) y2.exact s2 typed holes free hand quiet;
  waiting = λ i l. absurd (omega (arith, l));
  all_slots = refl;
  all_temps = ap length temps;
  forks = ap (λ o. is_some o) (sym none);
  hidden = λ i. refl;
  marked = λ i m e. absurd cc;
}
