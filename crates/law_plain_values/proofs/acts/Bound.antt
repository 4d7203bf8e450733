-- The value at hand stands in a new slot: ranks, types and the store.
use Rattle.std.proofs.Common.{◌≡◌, ◌≢◌, ◌⊎◌, inl, inr, ⊎_elim, ◌∙◌, ℕ, suc, ◌+◌, ◌<◌, ◌≤◌, Bool, true, false, List, ◌∷◌, length, Option, Some, None, refl, sym, ap, subst, arith}
use Rattle.std.specs.Prelude.{◌==◌, if◌then◌else◌}
use Rattle.fr_typing.specs.Kinds.{Kind, whole}
use Rattle.fr_typing.specs.Places.{Slot}
use Rattle.fr_terms.specs.Terms.{Text}
use Rattle.fr_typing.proofs.PlaceLemmas.{eq_cases}
use Rattle.fr_store.specs.Keys.{Key, slot_k, temp_k, content_k, result_k, hand_k}
use Rattle.fr_store.specs.Store.{Alike, at_key, gone_v, Store, Place, put_value, swap}
use Rattle.fr_store.specs.Typed.{hole, Exact, owns, refers, KeyTypes, Typed, Unnamed}
use Rattle.fr_store.specs.Below.{ExactOf}
use Rattle.fr_store.specs.Rows.{with_type}
use Rattle.fr_store.specs.Thread.{ThreadKeys, ThreadTyped}
use Rattle.fr_store.proofs.Keys.{key_same, key_other, decide_key}
use Rattle.fr_store.proofs.Rows.{swap_own, unnamed_with, top_fits, move_ref, same_store, same_env}
use Rattle.fr_store.proofs.SlotRows.{swap_back}
use Rattle.fr_store.proofs.ThreadKept.{exact_with, last_unnamed, slots_with}
use Rattle.fr_sound.specs.Entries.{Entry, going}
use Rattle.fr_sound.specs.States.{Typing}
use Rattle.fr_typing.specs.Kinds.{Owned}
use Rattle.fr_typing.specs.Places.{Env}
use Rattle.fr_plain.specs.PlainState.{Running, PlainState, place_in}
use Rattle.law_plain_values.specs.acts.Positions.{Position, PositionTypes}
use Rattle.law_plain_values.proofs.acts.Lower.{decide_less}
use Rattle.law_plain_values.proofs.acts.Raised.{ranked_by, reranked}
use Rattle.law_plain_values.proofs.acts.Hand.{At}
use Rattle.law_plain_values.proofs.acts.Rethread.{IsOwn, rethread}

-- RANKS

abbrev lift_by : {i d : ℕ} → ℕ → ((i < d) ⊎ (d ≤ i)) → ℕ → ℕ
lift_by n (inl l) r = r
lift_by n (inr l) r = n + r

-- the slots of thread t from number d on rank higher by n
abbrev pub lift : ℕ → ℕ → ℕ → (Key → ℕ) → Key → ℕ
lift n t d rank (slot_k u i) = if u == t then lift_by n (decide_less i d) (rank (slot_k u i)) else rank (slot_k u i)
lift n t d rank (temp_k u i) = rank (temp_k u i)
lift n t d rank (content_k h c) = rank (content_k h c)
lift n t d rank (result_k u) = rank (result_k u)
lift n t d rank (hand_k u) = rank (hand_k u)

module _ (n t d : ℕ) (rank : Key → ℕ) where
  -- no key ranks lower
  up_by : (b : Bool) {i : ℕ} (c : (i < d) ⊎ (d ≤ i)) (r : ℕ) → r ≤ (if b then lift_by n c r else r)
  up_by false c r = omega arith
  up_by true (inl l) r = omega arith
  up_by true (inr l) r = omega arith

  lift_up : (k : Key) → rank k ≤ lift n t d rank k
  lift_up (slot_k u i) = up_by (u == t) (decide_less i d) (rank (slot_k u i))
  lift_up (temp_k u i) = omega arith
  lift_up (content_k h c) = omega arith
  lift_up (result_k u) = omega arith
  lift_up (hand_k u) = omega arith

  low_by : {i : ℕ} (c : (i < d) ⊎ (d ≤ i)) (r : ℕ) → i < d → lift_by n c r ≡ r
  low_by (inl l) r lt = refl
  low_by (inr l) r lt = absurd (omega (arith, l, lt))

  -- a slot of another thread, or a lower one, ranks as before
  pub lift_same : (u i : ℕ) → (u ≡ t → i < d) → lift n t d rank (slot_k u i) ≡ rank (slot_k u i)
  lift_same u i low = eq_cases (λ b. (if b then lift_by n (decide_less i d) (rank (slot_k u i)) else rank (slot_k u i)) ≡ rank (slot_k u i)) u t (λ e. low_by (decide_less i d) (rank (slot_k u i)) (low e)) (λ ne. refl)

  high_by : {i : ℕ} (c : (i < d) ⊎ (d ≤ i)) (r : ℕ) → d ≤ i → lift_by n c r ≡ n + r
  high_by (inl l) r le = absurd (omega (arith, l, le))
  high_by (inr l) r le = refl

  pub lift_high : (i : ℕ) → d ≤ i → lift n t d rank (slot_k t i) ≡ n + rank (slot_k t i)
  lift_high i le = eq_cases (λ b. (if b then lift_by n (decide_less i d) (rank (slot_k t i)) else rank (slot_k t i)) ≡ n + rank (slot_k t i)) t t (λ e. high_by (decide_less i d) (rank (slot_k t i)) le) (λ ne. absurd (ne refl))

  rise_by : {i j : ℕ} (c : (i < d) ⊎ (d ≤ i)) (b : (j < d) ⊎ (d ≤ j)) (r q : ℕ) → i < j → r < q → lift_by n c r < lift_by n b q
  rise_by (inl l) (inl k) r q ij rq = rq
  rise_by (inl l) (inr k) r q ij rq = omega (arith, rq)
  rise_by (inr l) (inl k) r q ij rq = absurd (omega (arith, l, k, ij))
  rise_by (inr l) (inr k) r q ij rq = omega (arith, rq)

  lift_rises : (u i j : ℕ) → rank (slot_k u i) < rank (slot_k u j) → i < j → lift n t d rank (slot_k u i) < lift n t d rank (slot_k u j)
  lift_rises u i j rq ij = eq_cases (λ b. (if b then lift_by n (decide_less i d) (rank (slot_k u i)) else rank (slot_k u i)) < (if b then lift_by n (decide_less j d) (rank (slot_k u j)) else rank (slot_k u j))) u t
      (λ e. rise_by (decide_less i d) (decide_less j d) (rank (slot_k u i)) (rank (slot_k u j)) ij rq) (λ ne. rq)

-- what is named ranks as before, where no type names a slot that the thread doesn't have
pub lift_named : (n t d : ℕ) (y : Typing) (a : PlainState Position) → PositionTypes y a → ((i : ℕ) → d ≤ i → Unnamed y.exact (slot_k t i)) → (k : Key) (m : Bool) (u : Place) → y.exact k ≡ refers m u → lift n t d y.rank u.key ≡ y.rank u.key
lift_named n t d y a st free k m u is =
    let w = st.near k m u is in
    ap (lift n t d y.rank) w.is ∙ lift_same n t d y.rank w.owner w.slot (λ same. below (decide_less w.slot d) (λ le. free w.slot le k m u is (w.is ∙ ap (λ z. slot_k z w.slot) same))) ∙ ap y.rank (sym w.is)
  where
    below : {i d : ℕ} → (i < d) ⊎ (d ≤ i) → (d ≤ i → ⊥) → i < d
    below (inl l) f = l
    below (inr l) f = absurd (f l)

-- the slots that a thread doesn't have may rank as high as one likes: no type names them
pub lifted : (n : ℕ) (y : Typing) (a : PlainState Position) (t : ℕ) (x : Running Position) (e : Env) (ts : List Kind) (g : Owned) → At y a t x e ts g → ((i : ℕ) → length e ≤ i → Unnamed y.exact (slot_k t i)) → PositionTypes (ranked_by (lift n t (length e) y.rank) y) a
lifted n y a t x e ts g h free = reranked (lift n t (length e) y.rank) y a h.state (record {
  higher = lift_up n t (length e) y.rank;
  named = lift_named n t (length e) y a h.state free;
  rising = λ u i j rq ij. lift_rises n t (length e) y.rank u i j rq ij;
  slots = λ u w r i runs lt. lift_same n t (length e) y.rank u i (λ same.
      let f : Some x ≡ Some w = sym h.runs ∙ ap (λ z. place_in (a.thread z)) (sym same) ∙ runs in
      let wx : w ≡ x = cc in
      let is : r.entry ≡ going e ts g = sym r.known ∙ ap (λ (z : Running Position). z.place.entry) wx ∙ h.entry in
      let long : length r.entry.env ≡ length e = ap (λ (z : Entry). length z.env) is in
      omega (arith, lt, long));
})

-- TYPES

-- the type at hand stands at key y
abbrev pub bound_types : KeyTypes → Key → Key → KeyTypes
bound_types E a y = with_type (with_type E a (owns hole)) y (E a)

module _ (key : ℕ → Key) (rank : Key → ℕ) (a : Key) (e : List Slot) (E : KeyTypes) (s s2 : Store) (k : Kind) (name : Option Text) (ks : ThreadKeys key rank a) (t : ThreadTyped key rank a e E s (Some k))
    (rank_ok : (m : Bool) (u : Place) → E a ≡ refers m u → rank u.key < rank (key (length e))) (top : rank (key (length e)) < rank a) (alike : Alike (swap s a (at_key (key (length e)))) s2) where
  free : Unnamed E (key (length e))
  free = last_unnamed key rank a e E s (Some k) (length e) (length e) ks t t.names (omega arith) (omega arith)

  empty : E (key (length e)) ≡ owns hole
  empty = t.above (length e) (omega arith)

  off : key (length e) ≢ a
  off = ks.off (length e)

  typed_by : (q : Exact) → E a ≡ q → Typed rank (bound_types E a (key (length e))) (swap s a (at_key (key (length e))))
  typed_by (owns th) is =
      let y = key (length e) in
      let E1 = with_type E y (owns th) in
      same_env rank (with_type E1 a (owns hole)) (bound_types E a y) (swap s a (at_key y)) (swap_own rank E s a y 0 th hole hole (at_key y) t.typed t.quiet (λ z. off (sym z)) is free empty refl refl)
      (λ j. ⊎_elim
      (λ (z : j ≡ y). ap (bound_types E a y) z ∙ key_same y (E a) (with_type E a (owns hole) y) ∙ is ∙ sym (key_same y (owns th) (E y)) ∙ sym (key_other y a (owns hole) (E1 y) off) ∙ ap (with_type E1 a (owns hole)) (sym z))
      (λ (z : j ≢ y). key_other j y (E a) (with_type E a (owns hole) j) z ∙ by j z (decide_key j a)) (decide_key j y))
    where
      by : (j : Key) → j ≢ key (length e) → (j ≡ a) ⊎ (j ≢ a) → with_type E a (owns hole) j ≡ with_type (with_type E (key (length e)) (owns th)) a (owns hole) j
      by j z (inl w) = ap (with_type E a (owns hole)) w ∙ key_same a (owns hole) (E a) ∙ sym (key_same a (owns hole) (with_type E (key (length e)) (owns th) a)) ∙ ap (with_type (with_type E (key (length e)) (owns th)) a (owns hole)) (sym w)
      by j z (inr w) = key_other j a (owns hole) (E j) w ∙ sym (key_other j (key (length e)) (owns th) (E j) z) ∙ sym (key_other j a (owns hole) (with_type E (key (length e)) (owns th) j) w)
  typed_by (refers m u) is =
      let y = key (length e) in
      let E1 = with_type E a (owns hole) in
      same_store rank (with_type E1 y (refers m u)) (bound_types E a y) (put_value (put_value s (at_key a) gone_v) (at_key y) (s.at a)) (swap s a (at_key y)) (move_ref rank E s a y m u t.typed t.quiet free (λ z. off (sym z)) is (rank_ok m u is))
      (λ j. ap (λ q. with_type E1 y q j) is)
      (swap_back s a y off (top_fits rank E s t.typed y hole empty))

  -- what its references name was named before
  pub bound_stood : (j : Key) (m : Bool) (u : Place) → bound_types E a (key (length e)) j ≡ refers m u → (E j ≡ refers m u) ⊎ ((i : Key) × (E i ≡ refers m u) × IsOwn key a i × IsOwn key a j)
  bound_stood j m u js =
      let y = key (length e) in
      ⊎_elim
      (λ (z : j ≡ y). inr (a, sym (key_same y (E a) (with_type E a (owns hole) y)) ∙ ap (bound_types E a y) (sym z) ∙ js, inl refl, inr (length e, z)))
      (λ (z : j ≢ y).
      let js1 = sym (key_other j y (E a) (with_type E a (owns hole) j) z) ∙ js in
      ⊎_elim (λ (w : j ≡ a). let g : owns hole ≡ refers m u = sym (key_same a (owns hole) (E a)) ∙ ap (with_type E a (owns hole)) (sym w) ∙ js1 in absurd cc) (λ (w : j ≢ a). inl (sym (key_other j a (owns hole) (E j) w) ∙ js1)) (decide_key j a))
      (decide_key j y)

  -- a slot with a name and the type of what was at hand is bound
  pub bound_thread : ThreadTyped key rank a (record { name = name; part = whole k } ∷ e) (bound_types E a (key (length e))) s2 None
  bound_thread =
      let y = key (length e) in
      let E1 = with_type E a (owns hole) in
      let fy = unnamed_with E a hole y free in
      rethread t (record {
        typed = same_store rank (bound_types E a y) (bound_types E a y) (swap s a (at_key y)) s2 (typed_by (E a) refl) (λ j. refl) alike;
        nested = (t.names, t.nested);
        slots = (
          subst (ExactOf key (bound_types E a y) (whole k)) (sym (key_same y (E a) (E1 y))) (exact_with key E1 y (E a) (whole k) (E a) fy (λ q v js. free a q v js) (exact_with key E a (owns hole) (whole k) (E a) t.quiet (λ q v js. t.quiet a q v js) t.temp)),
          slots_with key E1 y (E a) e fy lower (slots_with key E a (owns hole) e t.quiet (λ i _. ks.off i) t.slots),
        );
        above = λ i le. key_other (key i) y (E a) (E1 (key i)) (λ z. not_above i le (ks.differ i (length e) z)) ∙ key_other (key i) a (owns hole) (E (key i)) (ks.off i) ∙ t.above i (omega (arith, le));
        temp = key_other a y (E a) (E1 a) (λ z. off (sym z)) ∙ key_same a (owns hole) (E a);
        names = tt;
        over = λ i il. eq_cases (λ _. rank (key i) < rank a) i (length e) (λ is. subst (λ n. rank (key n) < rank a) (sym is) top) (λ ne. t.over i (omega (arith, il, ne)));
        stood = bound_stood;
      })
    where
      not_above : (i : ℕ) → suc (length e) ≤ i → i ≡ length e → ⊥
      not_above i le z = omega (arith, le, z)

      lower : (i : ℕ) → i < length e → key i ≢ key (length e)
      lower i lt z = let g = ks.differ i (length e) z in omega (arith, g, lt)
