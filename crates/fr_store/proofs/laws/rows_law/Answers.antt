use Rattle.fr_store.proofs.laws.rows_law.Goals as goal
use Rattle.fr_store.proofs.Rows.{found_place, borrow, copy_ref, move_ref, swap_own, swap_through, box_hand, drop_hand, forget, sole, same_store}

pub returns : goal.returns
returns c = record { found = found_place; borrow = borrow; copy = copy_ref; move_ref = move_ref; swap_own = swap_own; swap_through = swap_through; box_hand = box_hand; drop_hand = drop_hand; forget = forget; sole = sole; same = same_store }
