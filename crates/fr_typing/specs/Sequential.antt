-- The forms of one thread (this project's rule).
use Rattle.std.specs.Prelude.{⊤}
use Rattle.fr_terms.specs.Terms.{Term, block_t, let_t, assign_t, read_t, borrow_t, borrow_mut_t, number_t, unit_t, box_t, print_t, arith_t, join_t, mutex_t, dup_t, lock_t, spawn_t, par_t, Items, none, item}

abbrev mutual
  -- all but those of threads, tasks and mutexes
  pub IsSequential : Term → Type 0
  IsSequential (block_t at items) = AreSequential items
  IsSequential (let_t at name value) = IsSequential value
  IsSequential (assign_t at to value) = IsSequential value
  IsSequential (read_t at from) = ⊤
  IsSequential (number_t at value) = ⊤
  IsSequential (unit_t at) = ⊤
  IsSequential (box_t at value) = IsSequential value
  IsSequential (print_t at value) = IsSequential value
  IsSequential (borrow_t at of) = ⊤
  IsSequential (borrow_mut_t at of) = ⊤
  IsSequential (arith_t at op left right) = IsSequential left × IsSequential right
  IsSequential (join_t at task) = ⊥
  IsSequential (mutex_t at value) = ⊥
  IsSequential (dup_t at of) = ⊥
  IsSequential (lock_t at of name body) = ⊥
  IsSequential (spawn_t at captures body) = ⊥
  IsSequential (par_t at captures body others other) = ⊥

  pub AreSequential : Items → Type 0
  AreSequential none = ⊤
  AreSequential (item first rest) = IsSequential first × AreSequential rest
