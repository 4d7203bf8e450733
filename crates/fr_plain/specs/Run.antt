-- The moves of running terms (Featherweight Rust's reduction; that a block drops one slot a step, threads and mutexes are
-- this project's rules).
use Rattle.std.specs.Prelude.{ℕ, zero, suc, ◌+◌, Bool, true, false, Option, None}
use Rattle.fr_base.specs.declared.label.Plain.TheVariants as plain
use Rattle.fr_plain.specs.declared.value.Value.{Value}
use Rattle.fr_plain.specs.declared.value.Value.TheVariants.{Own}
use Rattle.fr_plain.specs.Acts.{Act, do_let, do_read, do_borrow, do_assign, do_box, do_arith, do_print, do_discard, do_drop, do_spawn, do_join, do_mutex, do_dup, do_lock, do_unlock, do_par, do_par_end, unit}
use Rattle.fr_plain.specs.MachineThreads as machine
use Rattle.fr_plain.specs.MachineThreads.{Moves}
pub use Rattle.fr_plain.specs.MachineThreads.{Now, going, constant, temporary, by_now, on_value, alive, over, owing, loose, ended}
pub use Rattle.fr_plain.specs.RunningTerms.{Capture, Run, temp, unit_c, number, read, borrow, box_r, arith, bind, print, assign, block, spawn, join_r, mutex_r, dup, lock, locked, par, par_end, Parts, last, more}

-- a constant before a `;` vanishes
abbrev pub after : Now → Now → Now
after going n = going
after (constant v) n = n
after (temporary v) n = going

abbrev pub at_end : ℕ → Now → Now
at_end zero n = n
at_end (suc k) n = going

abbrev mutual
  pub now : Run → Now
  now (temp v) = temporary v
  now unit_c = constant unit
  now (number n) = constant (Own (plain.Int n))
  now (block k is) = at_end k (now_parts is)
  now _ = going

  pub now_parts : Parts → Now
  now_parts (last r) = now r
  now_parts (more r is) = after (now r) (now_parts is)

-- WHAT NEEDS NO STEP
-- a constant before a `;` vanishes, and a block that has dropped its slots is its last term

abbrev pub settle_more : Now → Run → Parts → Parts → Parts
settle_more going r is rest = more r is
settle_more (constant v) r is rest = rest
settle_more (temporary v) r is rest = more r is

-- a right operand waits until the left one is done
abbrev pub settle_right : Now → Run → Run → Run
settle_right going b rest = b
settle_right (constant v) b rest = rest
settle_right (temporary v) b rest = rest

abbrev pub close_last : Now → Run → Run
close_last going r = block zero (last r)
close_last (constant v) r = r
close_last (temporary v) r = r

abbrev pub close : ℕ → Parts → Run
close zero (last r) = close_last (now r) r
close zero (more r is) = block zero (more r is)
close (suc k) is = block (suc k) is

abbrev mutual
  pub settle : Run → Run
  settle (temp v) = temp v
  settle unit_c = unit_c
  settle (number n) = number n
  settle (read w take) = read w take
  settle (borrow w is_mut) = borrow w is_mut
  settle (box_r r) = box_r (settle r)
  settle (arith f a b) = arith f (settle a) (settle_right (now (settle a)) b (settle b))
  settle (bind r) = bind (settle r)
  settle (print r) = print (settle r)
  settle (assign w r) = assign w (settle r)
  settle (block k is) = close k (settle_parts is)
  settle (spawn cs r) = spawn cs r
  settle (join_r r) = join_r (settle r)
  settle (mutex_r r) = mutex_r (settle r)
  settle (dup w) = dup w
  settle (lock w r) = lock w r
  settle (locked r) = locked (settle r)
  settle (par cs a ds b) = par cs a ds b
  settle par_end = par_end

  pub settle_parts : Parts → Parts
  settle_parts (last r) = last (settle r)
  settle_parts (more r is) = settle_more (now (settle r)) (settle r) is (settle_parts is)

-- THE NEXT ACT
-- and what the term becomes with the value that the act leaves; neither sees the state

abbrev pub Move : Type 0 → Type 0
Move Q = machine.Move Run Q

module _ {P Q : Type 0} where
  abbrev pub next : (P → Q) → Option (Move P) → Option (Move Q)
  next f m = machine.next f m

module _ {P : Type 0} where
  abbrev pub alone : (Value → P) → Act → Option (Move P)
  alone f a = machine.alone f a

-- a block whose items are done drops its slots
abbrev pub block_end : ℕ → Parts → Option (Move Run)
block_end zero is = None
block_end (suc k) is = alone (λ v. block k is) do_drop

abbrev mutual
  -- a done term has none
  pub move : Run → Option (Move Run)
  move (temp v) = None
  move unit_c = None
  move (number n) = None
  move (read w take) = alone temp (do_read w take)
  move (borrow w is_mut) = alone temp (do_borrow w is_mut)
  move (box_r r) = on_value (now r) (λ v. alone temp (do_box v)) (next box_r (move r))
  move (arith f a b) = on_value (now a) (λ v. on_value (now b) (λ w. alone temp (do_arith f v w)) (next (arith f a) (move b))) (next (λ x. arith f x b) (move a))
  move (bind r) = on_value (now r) (λ v. alone (λ x. unit_c) (do_let v)) (next bind (move r))
  move (print r) = on_value (now r) (λ v. alone (λ x. unit_c) (do_print v)) (next print (move r))
  move (assign w r) = on_value (now r) (λ v. alone (λ x. unit_c) (do_assign w v)) (next (assign w) (move r))
  move (block k is) = on_value (now_parts is) (λ v. block_end k is) (next (block k) (move_parts is))
  move (spawn cs r) = alone temp (do_spawn cs r)
  move (join_r r) = on_value (now r) (λ v. alone temp (do_join v)) (next join_r (move r))
  move (mutex_r r) = on_value (now r) (λ v. alone temp (do_mutex v)) (next mutex_r (move r))
  move (dup w) = alone temp (do_dup w)
  move (lock w r) = alone (λ v. locked r) (do_lock w)
  -- the body's value stays
  move (locked r) = on_value (now r) (λ v. alone (λ x. r) do_unlock) (next locked (move r))
  move (par cs a ds b) = alone (λ v. par_end) (do_par cs a ds b)
  move par_end = alone (λ v. unit_c) do_par_end

  pub move_parts : Parts → Option (Move Parts)
  move_parts (last r) = next last (move r)
  move_parts (more r is) = by_now (now r) (next (λ x. more x is) (move r)) (λ v. move_parts is) (λ v. alone (λ x. is) (do_discard v))

-- the moves of the plain machine's threads
abbrev pub terms : Moves Run
terms = record { now = now; move = move; settle = settle }

abbrev pub Life : Type 0
Life = machine.Life Run

abbrev pub settle_life : Life → Life
settle_life l = machine.settle_life terms l

abbrev pub life_move : Life → Option (Move Life)
life_move l = machine.life_move terms l

-- HOW MANY STEPS ARE LEFT

abbrev pub one_if_temporary : Bool → ℕ
one_if_temporary true = 1
one_if_temporary false = 0

abbrev mutual
  -- whether the term's value will be a temporary one
  pub leaves : Run → Bool
  leaves (temp v) = true
  leaves (read w take) = true
  leaves (borrow w is_mut) = true
  leaves (box_r r) = true
  leaves (arith f a b) = true
  leaves (block k is) = leaves_last is
  leaves (spawn cs r) = true
  leaves (join_r r) = true
  leaves (mutex_r r) = true
  leaves (dup w) = true
  leaves (lock w r) = leaves r
  leaves (locked r) = leaves r
  leaves _ = false

  pub leaves_last : Parts → Bool
  leaves_last (last r) = leaves r
  leaves_last (more r is) = leaves_last is

abbrev mutual
  pub steps_left : Run → ℕ
  steps_left (temp v) = 0
  steps_left unit_c = 0
  steps_left (number n) = 0
  steps_left (read w take) = 1
  steps_left (borrow w is_mut) = 1
  steps_left (box_r r) = steps_left r + 1
  steps_left (arith f a b) = steps_left a + steps_left b + 1
  steps_left (bind r) = steps_left r + 1
  steps_left (print r) = steps_left r + 1
  steps_left (assign w r) = steps_left r + 1
  steps_left (block k is) = steps_in is + k
  -- the new thread's steps, its end, and its start
  steps_left (spawn cs r) = steps_left r + 2
  steps_left (join_r r) = steps_left r + 1
  steps_left (mutex_r r) = steps_left r + 1
  steps_left (dup w) = 1
  steps_left (lock w r) = steps_left r + 2
  steps_left (locked r) = steps_left r + 1
  -- the steps of both threads, their ends, the start and the end of the par
  steps_left (par cs a ds b) = steps_left a + steps_left b + 4
  steps_left par_end = 1

  pub steps_in : Parts → ℕ
  steps_in (last r) = steps_left r
  steps_in (more r is) = steps_left r + one_if_temporary (leaves r) + steps_in is

abbrev pub life_left : Life → ℕ
life_left (alive r) = steps_left r + 1
life_left over = 0
life_left (owing r) = steps_left r + 1
life_left (loose r) = steps_left r + 1
life_left (ended v) = 0
