-- `let mut x = 5; let mut r = &mut x; *r = 7`, by the rows.
use Rattle.std.proofs.Common.{ℕ, pos, [], ◌∷◌, Some, refl, arith}
use Rattle.fr_base.specs.declared.place.Lval.{Lval}
use Rattle.fr_typing.specs.Kinds.{int, Kind, own, mutable, whole}
use Rattle.fr_typing.specs.Places.{Slot}
use Rattle.fr_store.specs.Keys.{Key, slot_k, temp_k, content_k, result_k, hand_k}
use Rattle.fr_store.specs.Store.{Store}
use Rattle.fr_store.specs.Typed.{KeyTypes}
use Rattle.fr_store.specs.Thread.{ThreadKeys, ThreadTyped}
use Rattle.fr_store.proofs.BorrowRows.{mutable_row, write_row}
use Rattle.fr_store.proofs.OtherThreads.{start_row}
use Rattle.fr_store.proofs.SlotRows.{let_row, rank_next}
use Rattle.fr_store.proofs.ValueRows.{int_row}

-- the slots' keys
abbrev key : ℕ → Key
key i = slot_k 0 i

-- ranks for a hundred slots
abbrev rank : Key → ℕ
rank (slot_k t i) = i
rank (temp_k t n) = 100
rank (content_k t n) = 100
rank (result_k t) = 100
rank (hand_k t) = 100

-- they are keys of a thread
keys : ThreadKeys key rank (hand_k 0)
keys = record { differ = λ x y e. cc; off = λ i e. cc; ranks = λ i j lt. lt }

-- the first variable
abbrev x_slot : Slot
x_slot = record { name = Some (120 ∷ []); part = whole (own int) }

-- the second one
abbrev r_slot : Slot
r_slot = record { name = Some (114 ∷ []); part = whole (mutable (record { slot = 0; depth = 0 } ∷ [])) }

-- the state in which *r has been written
pub example : (s : Store) × (E : KeyTypes) × ThreadTyped key rank (hand_k 0) (r_slot ∷ x_slot ∷ []) E s (Some (own int))
example =
    let t0 = start_row key rank (hand_k 0) in
    let a1 = int_row key rank (hand_k 0) [] _ _ (pos 5) keys t0 in
    let a2 = let_row key rank (hand_k 0) [] a1.env _ (own int) (Some (120 ∷ [])) keys a1.thread (rank_next key rank (hand_k 0) [] a1.env _ (own int) keys a1.thread (λ o e. cc)) (omega arith) in
    let w : Lval = record { slot = 0; depth = 0 } in
    let b = mutable_row key rank (hand_k 0) (x_slot ∷ []) a2.env _ w (own int) keys a2.thread (omega arith) refl refl refl in
    let a3 = b.2 in
    let k : Kind = mutable (w ∷ []) in
    let a4 = let_row key rank (hand_k 0) (x_slot ∷ []) a3.env _ k (Some (114 ∷ [])) keys a3.thread (rank_next key rank (hand_k 0) (x_slot ∷ []) a3.env _ k keys a3.thread (λ o e. cc)) (omega arith) in
    let a5 = int_row key rank (hand_k 0) (r_slot ∷ x_slot ∷ []) a4.env _ (pos 7) keys a4.thread in
    let v : Lval = record { slot = 1; depth = 1 } in
    let c = write_row key rank (hand_k 0) (r_slot ∷ x_slot ∷ []) a5.env _ v int keys a5.thread (omega arith) refl refl refl in
    (_, c.2.env, c.2.thread)
