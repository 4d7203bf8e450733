-- How deep a running term is: how many terms stand around its innermost one, at most (this project's rule).
use Rattle.std.specs.Prelude.{ℕ, ◌+◌, max}
use Rattle.fr_plain.specs.Run.{Run, temp, unit_c, number, read, borrow, box_r, arith, bind, print, assign, block, spawn, join_r, mutex_r, dup, lock, locked, par, par_end, Parts, last, more}

abbrev mutual
  pub depth : Run → ℕ
  depth (temp v) = 0
  depth unit_c = 0
  depth (number n) = 0
  depth (read w take) = 0
  depth (borrow w is_mut) = 0
  depth (box_r r) = depth r + 1
  depth (arith f a b) = max (depth a) (depth b) + 1
  depth (bind r) = depth r + 1
  depth (print r) = depth r + 1
  depth (assign w r) = depth r + 1
  depth (block k is) = depth_in is + 1
  depth (spawn cs r) = depth r
  depth (join_r r) = depth r + 1
  depth (mutex_r r) = depth r + 1
  depth (dup w) = 0
  depth (lock w r) = depth r + 1
  depth (locked r) = depth r + 1
  depth (par cs a ds b) = max (depth a) (depth b)
  depth par_end = 0

  pub depth_in : Parts → ℕ
  depth_in (last r) = depth r
  depth_in (more r is) = max (depth r) (depth_in is)
