-- What a plain step does to the state: its act (Featherweight Rust's reductions; print, threads and labels are this
-- project's). The bodies of new threads are terms, or places in a code.
use Rattle.std.specs.Prelude.{ℕ, ℤ, Bool, true, false, List, [], ◌∷◌, ◌++◌, Option, Some, None}
use Rattle.std.specs.Int.{w64, int_wrapping_add, int_wrapping_sub, int_wrapping_mul}
use Rattle.fr_base.specs.declared.place.Op.{Op}
use Rattle.fr_base.specs.declared.place.Op.TheVariants as op
use Rattle.fr_base.specs.declared.label.Plain.{Plain}
use Rattle.fr_base.specs.declared.label.Plain.TheVariants as plain
use Rattle.fr_base.specs.declared.label.Label.{Label}
use Rattle.fr_base.specs.declared.label.Label.TheVariants as label
use Rattle.fr_base.specs.declared.place.Lval.{Lval}
use Rattle.fr_plain.specs.declared.value.Value.{Value}
use Rattle.fr_plain.specs.declared.value.Value.TheVariants.{Own, ToSlot, ToObject}
use Rattle.fr_plain.specs.Heap.{Heap, next_object, with_object, live, last_link}
use Rattle.fr_plain.specs.State.{State, Spot, in_slot, in_cell, gone, value_at, with_value, loads, stores, drops, Reached, then_reached, locate, drop_value}

-- a slot that a new thread captures: its value is taken, or copied
pub record Capture : Type 0 where
  pub slot : ℕ
  pub take : Bool

-- `do_end` is the end of the main thread, `do_finish` that of a thread whose result is kept, and `do_leave` that of a thread
-- that was let go. `do_par` starts two threads, and `do_par_end` waits for both
pub data Act (B : Type 0) : Type 0 where
  do_let : Value → Act B
  do_read : Lval → (take : Bool) → Act B
  do_borrow : Lval → (is_mut : Bool) → Act B
  do_assign : Lval → Value → Act B
  do_box : Value → Act B
  do_arith : Op → Value → Value → Act B
  do_print : Value → Act B
  do_discard : Value → Act B
  do_drop : Act B
  do_end : Value → Act B
  do_spawn : List Capture → B → Act B
  do_join : Value → Act B
  do_finish : Value → Act B
  do_leave : Value → Act B
  do_mutex : Value → Act B
  do_dup : Lval → Act B
  do_lock : Lval → Act B
  do_unlock : Act B
  do_par : List Capture → B → List Capture → B → Act B
  do_par_end : Act B

module _ {B : Type 0} where
  -- an act that starts no thread is one of every machine
  abbrev pub carry : Act ⊥ → Act B
  carry (do_let v) = do_let v
  carry (do_read w take) = do_read w take
  carry (do_borrow w is_mut) = do_borrow w is_mut
  carry (do_assign w v) = do_assign w v
  carry (do_box v) = do_box v
  carry (do_arith f v w) = do_arith f v w
  carry (do_print v) = do_print v
  carry (do_discard v) = do_discard v
  carry do_drop = do_drop
  carry (do_end v) = do_end v
  carry (do_spawn cs r) = absurd r
  carry (do_join v) = do_join v
  carry (do_finish v) = do_finish v
  carry (do_leave v) = do_leave v
  carry (do_mutex v) = do_mutex v
  carry (do_dup w) = do_dup w
  carry (do_lock w) = do_lock w
  carry do_unlock = do_unlock
  carry (do_par cs p ds q) = absurd p
  carry do_par_end = do_par_end

-- the value that the act leaves, the state after it, and its labels
pub record Did : Type 0 where
  pub value : Value
  pub state : State
  pub labels : List Label

abbrev pub unit : Value
unit = Own plain.Unit

-- copied, or taken out
abbrev pub read_did : State → Bool → Reached → Option Value → Option Did
read_did s take r None = None
read_did s false r (Some v) = Some (record { value = v; state = s; labels = r.passed ++ loads r.spot v })
read_did s true r (Some v) = Some (record { value = v; state = with_value s r.spot gone; labels = r.passed ++ loads r.spot v ++ stores r.spot gone })

-- a reference to what stands there
abbrev pub reference : Spot → Value
reference (in_slot i) = ToSlot i
reference (in_cell o) = ToObject o

-- the target is no cell on the way, so it has no load
abbrev pub borrow_did : State → Reached → Option Did
borrow_did s r = Some (record { value = reference r.spot; state = s; labels = r.passed })

-- the new value stands there, and the old one is dropped
abbrev pub assign_did : State → Value → Reached → Option Value → Option Did
assign_did s v r None = None
assign_did s v r (Some old) = Some (record { value = unit; state = drop_value (with_value s r.spot v) old; labels = r.passed ++ drops old ++ stores r.spot v })

abbrev pub box_did : State → Value → Option Did
box_did s (Own v) =
    Some (record { value = Own (plain.Box (next_object s.heap s.thread)); state = record s { heap = with_object s.heap s.thread v }; labels = label.Make (next_object s.heap s.thread) v ∷ [] })
box_did s _ = None

-- sums, differences and products wrap at 64 bits
abbrev pub result_of : Op → ℤ → ℤ → ℤ
result_of op.Add a b = int_wrapping_add w64 a b
result_of op.Sub a b = int_wrapping_sub w64 a b
result_of op.Mul a b = int_wrapping_mul w64 a b

abbrev pub arith_did : State → Op → Value → Value → Option Did
arith_did s f (Own (plain.Int a)) (Own (plain.Int b)) = Some (record { value = Own (plain.Int (result_of f a b)); state = s; labels = [] })
arith_did s f _ _ = None

abbrev pub print_did : State → Value → Option Did
print_did s (Own (plain.Int n)) = Some (record { value = unit; state = s; labels = label.Print n ∷ [] })
print_did s _ = None

-- the newest slot goes, and its value is dropped
abbrev pub drop_did : State → List Value → Option Did
drop_did s [] = None
drop_did s (v ∷ vs) = Some (record { value = unit; state = drop_value (record s { slots = vs }) v; labels = drops v })

module _ {B : Type 0} where
  -- an act that a thread does alone; starting and joining threads and what is done with mutexes are acts of the whole state
  abbrev pub act : Act B → State → Option Did
  act (do_let v) s = Some (record { value = unit; state = record s { slots = v ∷ s.slots }; labels = [] })
  act (do_read w take) s = then_reached (locate s w) (λ r. read_did s take r (value_at s r.spot))
  act (do_borrow w is_mut) s = then_reached (locate s w) (borrow_did s)
  act (do_assign w v) s = then_reached (locate s w) (λ r. assign_did s v r (value_at s r.spot))
  act (do_box v) s = box_did s v
  act (do_arith f a b) s = arith_did s f a b
  act (do_print v) s = print_did s v
  act (do_discard v) s = Some (record { value = unit; state = drop_value s v; labels = drops v })
  act do_drop s = drop_did s s.slots
  act (do_end v) s = Some (record { value = unit; state = drop_value s v; labels = drops v ++ label.End s.thread ∷ [] })
  act (do_finish v) s = Some (record { value = v; state = s; labels = label.End s.thread ∷ [] })
  act (do_leave v) s = Some (record { value = unit; state = drop_value s v; labels = label.End s.thread ∷ [] })
  act _ s = None

-- WHAT IS DROPPED LAST

-- what stands at the end of a value's boxes: the boxes go with the value, and this goes last
abbrev pub end_of : Heap → Value → Plain
end_of h (Own v) = last_link (live h) h v
end_of h _ = plain.Nothing

abbrev pub end_of_some : Heap → Option Value → Plain
end_of_some h None = plain.Nothing
end_of_some h (Some v) = end_of h v

abbrev pub newest : List Value → Option Value
newest [] = None
newest (v ∷ vs) = Some v

abbrev pub where_reached : Option Reached → (Reached → Plain) → Plain
where_reached None go = plain.Nothing
where_reached (Some r) go = go r

module _ {B : Type 0} where
  -- of the value that the act drops
  abbrev pub drops_last : Act B → State → Plain
  drops_last (do_assign w v) s = where_reached (locate s w) (λ r. end_of_some (with_value s r.spot v).heap (value_at s r.spot))
  drops_last (do_discard v) s = end_of s.heap v
  drops_last do_drop s = end_of_some s.heap (newest s.slots)
  drops_last (do_end v) s = end_of s.heap v
  drops_last (do_leave v) s = end_of s.heap v
  drops_last _ s = plain.Nothing
