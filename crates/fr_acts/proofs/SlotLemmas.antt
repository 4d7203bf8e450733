-- Slots in a vector, and seen the newest first.
use Rattle.std.proofs.Common.{◌≡◌, ℕ, zero, suc, ◌+◌, ◌<◌, ◌≤◌, true, false, List, [], ◌∷◌, length, get_or, Some, None, refl, ap, ◌∙◌, subst, arith}
use Rattle.std.specs.Prelude.{slice_set, if◌then◌else◌, IsSome}
use Rattle.fr_plain.specs.declared.value.Value.{Value}
use Rattle.fr_plain.specs.Heap.{Heap}
use Rattle.fr_plain.specs.State.{State, in_slot, slot_at, with_slot, with_value}
use Rattle.fr_acts.specs.SlotOrder.{onto, newest_first}
use Rattle.fr_acts.specs.Acting.{state}
use Rattle.fr_typing.proofs.PlaceLemmas.{eq_cases}

-- as many as in both lists
pub length_onto : {A : Type 0} (es xs : List A) → length (onto es xs) ≡ length es + length xs
length_onto es [] = omega arith
length_onto es (x ∷ xs) = let i = length_onto (x ∷ es) xs in omega arith

-- past the end no slot stands
slot_past : (vs : List Value) (i : ℕ) → length vs ≤ i → slot_at vs i ≡ None
slot_past [] i h = refl
slot_past (v ∷ vs) i h = eq_cases (λ b. (if b then Some v else slot_at vs i) ≡ None) i (length vs) (λ e. absurd (omega arith)) (λ ne. slot_past vs i (omega arith))

-- slots that come later change none below
slot_kept : (es vs : List Value) (i : ℕ) → i < length es → slot_at (onto es vs) i ≡ slot_at es i
slot_kept es [] i h = refl
slot_kept es (v ∷ vs) i h = slot_kept (v ∷ es) vs i (omega arith) ∙ eq_cases (λ b. (if b then Some v else slot_at es i) ≡ slot_at es i) i (length es) (λ e. absurd (omega arith)) (λ ne. refl)

-- the newest slot has the highest number
slot_here : (v : Value) (es : List Value) → slot_at (v ∷ es) (length es) ≡ Some v
slot_here v es = eq_cases (λ b. (if b then Some v else slot_at es (length es)) ≡ Some v) (length es) (length es) (λ e. refl) (λ ne. absurd (ne refl))

-- the slots of a vector by number
slot_onto : (es vs : List Value) (i : ℕ) (d : Value) → i < length vs → slot_at (onto es vs) (length es + i) ≡ Some (get_or vs i d)
slot_onto es [] i d h = absurd (omega arith)
slot_onto es (v ∷ vs) zero d h = let at : length es ≡ length es + zero = omega arith in subst (λ k. slot_at (onto (v ∷ es) vs) k ≡ Some v) at (slot_kept (v ∷ es) vs (length es) (omega arith) ∙ slot_here v es)
slot_onto es (v ∷ vs) (suc i) d h = let at : length (v ∷ es) + i ≡ length es + suc i = omega arith in subst (λ k. slot_at (onto (v ∷ es) vs) k ≡ Some (get_or vs i d)) at (slot_onto (v ∷ es) vs i d (omega arith))

-- a slot is the item of its number
pub slot_newest : (vs : List Value) (i : ℕ) (d : Value) → i < length vs → slot_at (newest_first vs) i ≡ Some (get_or vs i d)
slot_newest vs i d h = let at : 0 + i ≡ i = omega arith in subst (λ k. slot_at (newest_first vs) k ≡ Some (get_or vs i d)) at (slot_onto [] vs i d h)

-- past the end of the vector no slot stands
pub slot_none : (vs : List Value) (i : ℕ) → length vs ≤ i → slot_at (newest_first vs) i ≡ None
slot_none vs i h = slot_past (newest_first vs) i (omega (arith, length_onto [] vs))

-- writing below later slots
with_kept : (es vs : List Value) (i : ℕ) (new : Value) → i < length es → with_slot (onto es vs) i new ≡ onto (with_slot es i new) vs
with_kept es [] i new h = refl
with_kept es (v ∷ vs) i new h =
    with_kept (v ∷ es) vs i new (omega arith)
    ∙ ap (λ us. onto us vs) (eq_cases (λ b. (if b then new ∷ es else v ∷ with_slot es i new) ≡ v ∷ with_slot es i new) i (length es) (λ e. absurd (omega arith)) (λ ne. refl))

-- writing the newest slot
with_here : (v : Value) (es : List Value) (new : Value) → with_slot (v ∷ es) (length es) new ≡ new ∷ es
with_here v es new = eq_cases (λ b. (if b then new ∷ es else v ∷ with_slot es (length es) new) ≡ new ∷ es) (length es) (length es) (λ e. refl) (λ ne. absurd (ne refl))

-- writing by number
with_onto : (es vs : List Value) (i : ℕ) (new : Value) → i < length vs → with_slot (onto es vs) (length es + i) new ≡ onto es (slice_set vs i new)
with_onto es [] i new h = absurd (omega arith)
with_onto es (v ∷ vs) zero new h =
    let at : length es ≡ length es + zero = omega arith in
    subst (λ k. with_slot (onto (v ∷ es) vs) k new ≡ onto (new ∷ es) vs) at (with_kept (v ∷ es) vs (length es) new (omega arith) ∙ ap (λ us. onto us vs) (with_here v es new))
with_onto es (v ∷ vs) (suc i) new h =
    let at : length (v ∷ es) + i ≡ length es + suc i = omega arith in
    subst (λ k. with_slot (onto (v ∷ es) vs) k new ≡ onto (v ∷ es) (slice_set vs i new)) at (with_onto (v ∷ es) vs i new (omega arith))

-- writing a slot is writing the item of its number
pub with_newest : (vs : List Value) (i : ℕ) (new : Value) → i < length vs → with_slot (newest_first vs) i new ≡ newest_first (slice_set vs i new)
with_newest vs i new h = let at : 0 + i ≡ i = omega arith in subst (λ k. with_slot (newest_first vs) k new ≡ newest_first (slice_set vs i new)) at (with_onto [] vs i new h)

-- a thread's slots, the newest first, and the heap
abbrev state_with : ℕ → List Value → Heap → State
state_with t us h = record { thread = t; slots = us; heap = h }

-- the state with a slot written
pub put_slot : (t : ℕ) (vs : List Value) (h : Heap) (i : ℕ) (new : Value) → i < length vs → with_value (state t vs h) (in_slot i) new ≡ state t (slice_set vs i new) h
put_slot t vs h i new lt = ap (λ us. state_with t us h) (with_newest vs i new lt)

-- a slot that stands has a number below their count
slot_within : (vs : List Value) (i : ℕ) → IsSome (slot_at vs i) → i < length vs
slot_within [] i h = let f : false ≡ true = h in absurd cc
slot_within (v ∷ vs) i h = eq_cases (λ b. IsSome (if b then Some v else slot_at vs i) → i < length (v ∷ vs)) i (length vs) (λ e g. omega arith) (λ ne g. let l = slot_within vs i g in omega arith) h

-- a slot that stands has a number below the number of slots
pub slot_stands : (vs : List Value) (i : ℕ) → IsSome (slot_at (newest_first vs) i) → i < length vs
slot_stands vs i h = omega (arith, slot_within (newest_first vs) i h, length_onto [] vs)
