-- A running term as the terms around its innermost one, and when it waits for a step.
use Rattle.std.specs.Prelude.{ℕ, zero, suc, ⊤, List, [], ◌∷◌}
use Rattle.fr_base.specs.declared.place.Lval.{Lval}
use Rattle.fr_base.specs.declared.place.Op.{Op}
use Rattle.fr_plain.specs.Run.{Run, temp, unit_c, number, read, borrow, box_r, arith, bind, print, assign, block, spawn, join_r, mutex_r, dup, lock, locked, par, par_end, Parts, last, more, Now, going, constant, temporary, now}
use Rattle.fr_meaning.specs.declared.frame.Done.{Done}
use Rattle.fr_meaning.specs.DoneTerms.{over}

-- a term with a hole in it: of an operation, the left operand before the right one, or the right one after the left one, which is done
pub data Around : Type 0 where
  in_box : Around
  in_bind : Around
  in_print : Around
  in_join : Around
  in_mutex : Around
  in_locked : Around
  in_assign : Lval → Around
  in_left : Op → Run → Around
  in_right : Op → Done → Around
  in_last : ℕ → Around
  in_more : ℕ → Parts → Around

abbrev pub fill : Around → Run → Run
fill in_box r = box_r r
fill in_bind r = bind r
fill in_print r = print r
fill in_join r = join_r r
fill in_mutex r = mutex_r r
fill in_locked r = locked r
fill (in_assign w) r = assign w r
fill (in_left f b) r = arith f r b
fill (in_right f d) r = arith f (over d) r
fill (in_last k) r = block k (last r)
fill (in_more k is) r = block k (more r is)

-- the outermost first
abbrev pub wrap : List Around → Run → Run
wrap [] r = r
wrap (c ∷ cs) r = fill c (wrap cs r)

-- a block with no slot left to drop isn't done
abbrev pub IsOpen : ℕ → Now → Type 0
IsOpen zero going = ⊤
IsOpen zero (constant v) = ⊥
IsOpen zero (temporary v) = ⊥
IsOpen (suc k) n = ⊤

-- no constant stands before a `;`
abbrev pub IsHeld : Now → Type 0
IsHeld going = ⊤
IsHeld (constant v) = ⊥
IsHeld (temporary v) = ⊤

-- a right operand is entered where the left one is done
abbrev pub RightSettled : Now → Type 0 → Type 0
RightSettled going S = ⊤
RightSettled (constant v) S = S
RightSettled (temporary v) S = S

abbrev mutual
  -- all that needs no step has vanished, as far as the term was entered
  pub IsSettled : Run → Type 0
  IsSettled (temp v) = ⊤
  IsSettled unit_c = ⊤
  IsSettled (number n) = ⊤
  IsSettled (read w take) = ⊤
  IsSettled (borrow w is_mut) = ⊤
  IsSettled (box_r r) = IsSettled r
  IsSettled (arith f a b) = IsSettled a × RightSettled (now a) (IsSettled b)
  IsSettled (bind r) = IsSettled r
  IsSettled (print r) = IsSettled r
  IsSettled (assign w r) = IsSettled r
  IsSettled (block k is) = AreSettled k is
  IsSettled (spawn cs r) = ⊤
  IsSettled (join_r r) = IsSettled r
  IsSettled (mutex_r r) = IsSettled r
  IsSettled (dup w) = ⊤
  IsSettled (lock w r) = ⊤
  IsSettled (locked r) = IsSettled r
  IsSettled (par cs a ds b) = ⊤
  IsSettled par_end = ⊤

  pub AreSettled : ℕ → Parts → Type 0
  AreSettled k (last r) = IsSettled r × IsOpen k (now r)
  AreSettled k (more r is) = IsSettled r × IsHeld (now r)
