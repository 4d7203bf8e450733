-- The forms of several threads that share no memory (this project's rule).
use Rattle.std.specs.Prelude.{⊤}
use Rattle.fr_terms.specs.Terms.{Term, block_t, let_t, assign_t, read_t, borrow_t, borrow_mut_t, number_t, unit_t, box_t, print_t, arith_t, join_t, mutex_t, dup_t, lock_t, spawn_t, par_t, Items, none, item}

abbrev mutual
  -- the forms of one thread, and starting and joining threads (no mutexes, no views)
  pub IsThreaded : Term → Type 0
  IsThreaded (block_t at items) = AreThreaded items
  IsThreaded (let_t at name value) = IsThreaded value
  IsThreaded (assign_t at to value) = IsThreaded value
  IsThreaded (read_t at from) = ⊤
  IsThreaded (number_t at value) = ⊤
  IsThreaded (unit_t at) = ⊤
  IsThreaded (box_t at value) = IsThreaded value
  IsThreaded (print_t at value) = IsThreaded value
  IsThreaded (borrow_t at of) = ⊤
  IsThreaded (borrow_mut_t at of) = ⊤
  IsThreaded (arith_t at op left right) = IsThreaded left × IsThreaded right
  IsThreaded (join_t at task) = IsThreaded task
  IsThreaded (mutex_t at value) = ⊥
  IsThreaded (dup_t at of) = ⊥
  IsThreaded (lock_t at of name body) = ⊥
  IsThreaded (spawn_t at captures body) = IsThreaded body
  IsThreaded (par_t at captures body others other) = ⊥

  pub AreThreaded : Items → Type 0
  AreThreaded none = ⊤
  AreThreaded (item first rest) = IsThreaded first × AreThreaded rest
