-- A term that goes on has a move.
use Rattle.std.proofs.Common.{◌≡◌, ℕ, zero, suc, Option, Some, None, refl}
use Rattle.std.specs.Prelude.{⊤}
use Rattle.fr_sound.specs.Below.fr_plain.declared.value.Value.{Value}
use Rattle.fr_sound.specs.Below.fr_plain.Acts.{do_discard, do_box, do_let, do_print, do_assign, do_arith, do_join, do_mutex, do_unlock}
use Rattle.fr_sound.specs.Below.fr_plain.Run.{Run, temp, unit_c, number, read, borrow, box_r, arith, bind, print, assign, block, spawn, join_r, mutex_r, dup, lock, locked, par, par_end, Parts, last, more, Now, going, constant, temporary, by_now, on_value, after, at_end, now, now_parts, Move, next, alone, block_end, move, move_parts}

module _ {A : Type 0} where
  abbrev pub There : Option A → Type 0
  There None = ⊥
  There (Some x) = ⊤

module _ {P Q : Type 0} (g : P → Q) where
  there_next : (a : Option (Move P)) → There a → There (next g a)
  there_next None h = absurd h
  there_next (Some m) h = tt

  -- inside the part, or with its value
  there_in : (n : Now) (f : Value → Option (Move Q)) (a : Option (Move P)) → ((v : Value) → There (f v)) → (n ≡ going → There a) → There (on_value n f (next g a))
  there_in going f a h k = there_next a (k refl)
  there_in (constant v) f a h k = h v
  there_in (temporary v) f a h k = h v

block_there : (k : ℕ) (n : Now) (is : Parts) → at_end k n ≡ going → (n ≡ going → There (move_parts is)) → There (on_value n (λ v. block_end k is) (next (block k) (move_parts is)))
block_there k going is e h = there_next (block k) (move_parts is) (h refl)
block_there zero (constant v) is e h = absurd cc
block_there zero (temporary v) is e h = absurd cc
block_there (suc k) (constant v) is e h = tt
block_there (suc k) (temporary v) is e h = tt

more_there : (n : Now) (r : Run) (is : Parts) → after n (now_parts is) ≡ going → (n ≡ going → There (move r)) → (now_parts is ≡ going → There (move_parts is))
    → There (by_now n (next (λ x. more x is) (move r)) (λ v. move_parts is) (λ v. alone (λ x. is) (do_discard v)))
more_there going r is e h k = there_next (λ x. more x is) (move r) (h refl)
more_there (constant v) r is e h k = k e
more_there (temporary v) r is e h k = tt

mutual
  pub going_moves : (r : Run) → now r ≡ going → There (move r)
  going_moves (temp v) e = absurd cc
  going_moves unit_c e = absurd cc
  going_moves (number n) e = absurd cc
  going_moves (read w take) e = tt
  going_moves (borrow w is_mut) e = tt
  going_moves (box_r r) e = there_in box_r (now r) (λ v. alone temp (do_box v)) (move r) (λ v. tt) (going_moves r)
  going_moves (arith f a b) e =
      there_in (λ x. arith f x b) (now a) (λ v. on_value (now b) (λ w. alone temp (do_arith f v w)) (next (arith f a) (move b))) (move a)
      (λ v. there_in (arith f a) (now b) (λ w. alone temp (do_arith f v w)) (move b) (λ w. tt) (going_moves b)) (going_moves a)
  going_moves (bind r) e = there_in bind (now r) (λ v. alone (λ x. unit_c) (do_let v)) (move r) (λ v. tt) (going_moves r)
  going_moves (print r) e = there_in print (now r) (λ v. alone (λ x. unit_c) (do_print v)) (move r) (λ v. tt) (going_moves r)
  going_moves (assign w r) e = there_in (assign w) (now r) (λ v. alone (λ x. unit_c) (do_assign w v)) (move r) (λ v. tt) (going_moves r)
  going_moves (block k is) e = block_there k (now_parts is) is e (going_parts is)
  going_moves (spawn cs r) e = tt
  going_moves (join_r r) e = there_in join_r (now r) (λ v. alone temp (do_join v)) (move r) (λ v. tt) (going_moves r)
  going_moves (mutex_r r) e = there_in mutex_r (now r) (λ v. alone temp (do_mutex v)) (move r) (λ v. tt) (going_moves r)
  going_moves (dup w) e = tt
  going_moves (lock w r) e = tt
  going_moves (locked r) e = there_in locked (now r) (λ v. alone (λ x. r) do_unlock) (move r) (λ v. tt) (going_moves r)
  going_moves (par cs a ds b) e = tt
  going_moves par_end e = tt

  going_parts : (is : Parts) → now_parts is ≡ going → There (move_parts is)
  going_parts (last r) e = there_next last (move r) (going_moves r e)
  going_parts (more r is) e = more_there (now r) r is e (going_moves r) (going_parts is)
