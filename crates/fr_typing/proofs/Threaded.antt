-- Forms of one thread among those of several.
use Rattle.fr_terms.specs.Terms.{Term, block_t, let_t, assign_t, read_t, borrow_t, borrow_mut_t, number_t, unit_t, box_t, print_t, arith_t, join_t, mutex_t, dup_t, lock_t, spawn_t, par_t, Items, none, item}
use Rattle.fr_typing.specs.Sequential.{IsSequential, AreSequential}
use Rattle.fr_typing.specs.Threaded.{IsThreaded, AreThreaded}

mutual
  -- a term of the forms of one thread is one of those of several
  pub sequential_threaded : (t : Term) → IsSequential t → IsThreaded t
  sequential_threaded (block_t at items) s = sequential_items items s
  sequential_threaded (let_t at name value) s = sequential_threaded value s
  sequential_threaded (assign_t at to value) s = sequential_threaded value s
  sequential_threaded (read_t at from) s = tt
  sequential_threaded (number_t at value) s = tt
  sequential_threaded (unit_t at) s = tt
  sequential_threaded (box_t at value) s = sequential_threaded value s
  sequential_threaded (print_t at value) s = sequential_threaded value s
  sequential_threaded (borrow_t at of) s = tt
  sequential_threaded (borrow_mut_t at of) s = tt
  sequential_threaded (arith_t at op left right) s = (sequential_threaded left s.0, sequential_threaded right s.1)
  sequential_threaded (join_t at task) s = absurd s
  sequential_threaded (mutex_t at value) s = absurd s
  sequential_threaded (dup_t at of) s = absurd s
  sequential_threaded (lock_t at of name body) s = absurd s
  sequential_threaded (spawn_t at captures body) s = absurd s
  sequential_threaded (par_t at captures body others other) s = absurd s

  pub sequential_items : (ts : Items) → AreSequential ts → AreThreaded ts
  sequential_items none s = tt
  sequential_items (item t ts) s = (sequential_threaded t s.0, sequential_items ts s.1)
