-- What the captures that are left find.
use Rattle.std.proofs.lemmas.Option.{slice_get_within, slice_get_read}
use Rattle.std.proofs.lemmas.List.{length-append, length-drop}
use Rattle.std.proofs.lemmas.List.Elements.{All-append, All-cons, All-nil}
use Rattle.thread_state.specs.View.{is_pinned}
use Rattle.std.proofs.Common.{◌≡◌, ℕ, ◌+◌, ◌<◌, ◌≤◌, All, arith, is_some, Bool, false, List, [], ◌∷◌, ◌++◌, length, drop, get_or, slice_get, Option, None, Some, IsSome, refl, sym, ap, subst, ◌∙◌, true≢false, add-one, drop-cons}
use Rattle.thread_state.specs.declared.value.Value.{Value}
use Rattle.server_model.specs.Work.{then_some}
use Rattle.server_model.specs.Start.{captured, left_after, capture_from}

next_of : (cs : List (ℕ × Bool)) (j : ℕ) (d : ℕ × Bool) → j < length cs → drop j cs ≡ get_or cs j d ∷ drop (j + 1) cs
next_of cs j d few = rw (add-one, drop-cons cs j d few) refl

-- the next capture, and those that are left after it
pub captures_go : (b : Bool) (new : List Value) (cs : List (ℕ × Bool)) (j : ℕ) (slots : List Value) → j < length cs
    → capture_from b new (drop j cs) slots ≡ then_some (slice_get slots (get_or cs j (0, false)).0) (λ v. then_some (captured b (get_or cs j (0, false)).1 v) (λ u. capture_from b (new ++ u ∷ []) (drop (j + 1) cs) (left_after (get_or cs j (0, false)).1 slots (get_or cs j (0, false)).0)))
captures_go b new cs j slots few = ap (λ l. capture_from b new l slots) (next_of cs j (0, false) few)

-- its slot is there
pub slot_there : (b : Bool) (new : List Value) (cs : List (ℕ × Bool)) (j : ℕ) (slots : List Value) → j < length cs → IsSome (capture_from b new (drop j cs) slots) → IsSome (slice_get slots (get_or cs j (0, false)).0)
slot_there b new cs j slots few h = by (slice_get slots (get_or cs j (0, false)).0) (λ v. then_some (captured b (get_or cs j (0, false)).1 v) (λ u. capture_from b (new ++ u ∷ []) (drop (j + 1) cs) (left_after (get_or cs j (0, false)).1 slots (get_or cs j (0, false)).0))) (subst (λ o. IsSome o) (captures_go b new cs j slots few) h)
  where
    by : {Y : Type 0} (o : Option Value) (f : Value → Option Y) → IsSome (then_some o f) → IsSome o
    by None f g = absurd (true≢false (sym g))
    by (Some x) f g = refl

-- what is captured of it is there
pub value_there : (b : Bool) (new : List Value) (cs : List (ℕ × Bool)) (j : ℕ) (slots : List Value) (v : Value) → j < length cs → IsSome (capture_from b new (drop j cs) slots) → slice_get slots (get_or cs j (0, false)).0 ≡ Some v → IsSome (captured b (get_or cs j (0, false)).1 v)
value_there b new cs j slots v few h e = by (captured b (get_or cs j (0, false)).1 v) (λ u. capture_from b (new ++ u ∷ []) (drop (j + 1) cs) (left_after (get_or cs j (0, false)).1 slots (get_or cs j (0, false)).0)) (subst (λ o. IsSome (then_some o (λ x. then_some (captured b (get_or cs j (0, false)).1 x) (λ u. capture_from b (new ++ u ∷ []) (drop (j + 1) cs) (left_after (get_or cs j (0, false)).1 slots (get_or cs j (0, false)).0))))) e (subst (λ o. IsSome o) (captures_go b new cs j slots few) h))
  where
    by : {Y : Type 0} (o : Option Value) (f : Value → Option Y) → IsSome (then_some o f) → IsSome o
    by None f g = absurd (true≢false (sym g))
    by (Some x) f g = refl

-- one capture is done
pub captures_on : (b : Bool) (new : List Value) (cs : List (ℕ × Bool)) (j : ℕ) (slots : List Value) (v u : Value) → j < length cs → slice_get slots (get_or cs j (0, false)).0 ≡ Some v → captured b (get_or cs j (0, false)).1 v ≡ Some u
    → capture_from b new (drop j cs) slots ≡ capture_from b (new ++ u ∷ []) (drop (j + 1) cs) (left_after (get_or cs j (0, false)).1 slots (get_or cs j (0, false)).0)
captures_on b new cs j slots v u few e g =
    captures_go b new cs j slots few
    ∙ ap (λ o. then_some o (λ x. then_some (captured b (get_or cs j (0, false)).1 x) (λ y. capture_from b (new ++ y ∷ []) (drop (j + 1) cs) (left_after (get_or cs j (0, false)).1 slots (get_or cs j (0, false)).0)))) e
    ∙ ap (λ o. then_some o (λ y. capture_from b (new ++ y ∷ []) (drop (j + 1) cs) (left_after (get_or cs j (0, false)).1 slots (get_or cs j (0, false)).0))) g

-- so its slot is among them
pub slot_within : (b : Bool) (new : List Value) (cs : List (ℕ × Bool)) (j : ℕ) (slots : List Value) → j < length cs → IsSome (capture_from b new (drop j cs) slots) → (get_or cs j (0, false)).0 < length slots
slot_within b new cs j slots few h = by (slice_get slots (get_or cs j (0, false)).0) refl (slot_there b new cs j slots few h)
  where
    by : (o : Option Value) → slice_get slots (get_or cs j (0, false)).0 ≡ o → IsSome o → (get_or cs j (0, false)).0 < length slots
    by None e g = absurd (true≢false (sym g))
    by (Some x) e g = slice_get_within slots (get_or cs j (0, false)).0 x e

none_there : (o : Option Value) → o ≡ None → IsSome o → ⊥
none_there None e g = true≢false (sym g)
none_there (Some x) e g = true≢false (ap is_some e)

-- what stands in that slot is captured
pub none_lost : (b : Bool) (new : List Value) (cs : List (ℕ × Bool)) (j : ℕ) (slots : List Value) (v : Value) (o : Option Value) → j < length cs → IsSome (capture_from b new (drop j cs) slots) → v ≡ get_or slots (get_or cs j (0, false)).0 v
    → o ≡ captured b (get_or cs j (0, false)).1 v → o ≡ None → ⊥
none_lost b new cs j slots v o few h read is none =
    none_there (captured b (get_or cs j (0, false)).1 v) (sym is ∙ none)
    (value_there b new cs j slots v few h (slice_get_read slots (length slots) (get_or cs j (0, false)).0 v refl (slot_within b new cs j slots few h) read))

-- one capture more
pub one_more : (b : Bool) (new after : List Value) (cs : List (ℕ × Bool)) (j : ℕ) (slots left : List Value) (v u : Value) (o : Option Value) → j < length cs → IsSome (capture_from b new (drop j cs) slots) → v ≡ get_or slots (get_or cs j (0, false)).0 v
    → o ≡ captured b (get_or cs j (0, false)).1 v → o ≡ Some u → after ≡ new ++ u ∷ [] → left ≡ left_after (get_or cs j (0, false)).1 slots (get_or cs j (0, false)).0
    → capture_from b after (drop (j + 1) cs) left ≡ capture_from b new (drop j cs) slots
one_more b new after cs j slots left v u o few h read is some grown leaves =
    ap (λ n. capture_from b n (drop (j + 1) cs) left) grown
    ∙ ap (λ s. capture_from b (new ++ u ∷ []) (drop (j + 1) cs) s) leaves
    ∙ sym (captures_on b new cs j slots v u few (slice_get_read slots (length slots) (get_or cs j (0, false)).0 v refl (slot_within b new cs j slots few h) read) (sym is ∙ some))

-- each of the values is packed, and so is one more
pub packed_more : (new after : List Value) (u : Value) → after ≡ new ++ u ∷ [] → All (λ v. is_pinned v ≡ false) new → is_pinned u ≡ false → All (λ v. is_pinned v ≡ false) after
packed_more new after u grown all one = subst (All (λ v. is_pinned v ≡ false)) (sym grown) (All-append (λ v. is_pinned v ≡ false) new (u ∷ []) all (All-cons (λ v. is_pinned v ≡ false) u [] one (All-nil (λ v. is_pinned v ≡ false))))

-- room for those that are left
pub room_more : {X : Type 0} (cs : List X) (j : ℕ) (new after : List Value) (u : Value) (before now : ℕ) → j < length cs → after ≡ new ++ u ∷ [] → length (drop j cs) + length new ≤ before → now ≡ before → length (drop (j + 1) cs) + length after ≤ now
room_more cs j new after u before now few grown fits same =
    omega (arith, length-drop j cs, length-drop (j + 1) cs, ap length grown, length-append new (u ∷ []), few, fits, same)
