-- HOW MANY NODES A TERM HAS, AND HOW MANY THREADS IT STARTS (this project's rules): a node is a term, a place in one, or a captured name, as in a source's tree.
use Rattle.std.specs.Prelude.{◌≤◌, ℕ, ◌+◌, ◌*◌, ⊤, length}
use Rattle.fr_terms.specs.Terms.{Term, block_t, let_t, assign_t, read_t, borrow_t, borrow_mut_t, number_t, unit_t, box_t, print_t, arith_t, join_t, mutex_t, dup_t, lock_t, spawn_t, par_t, Items, none, item, IsBlock}
use Rattle.fr_plain.specs.Run.{alive, life_left}
use Rattle.fr_plain.specs.Resolve.{program}

abbrev mutual
  pub nodes_of : Term → ℕ
  nodes_of (block_t at items) = nodes_in items + 1
  nodes_of (let_t at name value) = nodes_of value + 1
  nodes_of (assign_t at to value) = nodes_of value + 2
  nodes_of (read_t at from) = 2
  nodes_of (borrow_t at of) = 2
  nodes_of (borrow_mut_t at of) = 2
  nodes_of (number_t at value) = 1
  nodes_of (unit_t at) = 1
  nodes_of (box_t at value) = nodes_of value + 1
  nodes_of (print_t at value) = nodes_of value + 1
  nodes_of (arith_t at op left right) = nodes_of left + nodes_of right + 1
  nodes_of (join_t at task) = nodes_of task + 1
  nodes_of (mutex_t at value) = nodes_of value + 1
  nodes_of (dup_t at of) = 2
  nodes_of (lock_t at of name body) = nodes_of body + 2
  nodes_of (spawn_t at captures body) = nodes_of body + length captures + 1
  nodes_of (par_t at captures body others other) = nodes_of body + length captures + nodes_of other + length others + 1

  pub nodes_in : Items → ℕ
  nodes_in none = 0
  nodes_in (item first rest) = nodes_of first + nodes_in rest

-- the threads that it starts, with those that these start
abbrev mutual
  pub threads_of : Term → ℕ
  threads_of (block_t at items) = threads_in items
  threads_of (let_t at name value) = threads_of value
  threads_of (assign_t at to value) = threads_of value
  threads_of (read_t at from) = 0
  threads_of (borrow_t at of) = 0
  threads_of (borrow_mut_t at of) = 0
  threads_of (number_t at value) = 0
  threads_of (unit_t at) = 0
  threads_of (box_t at value) = threads_of value
  threads_of (print_t at value) = threads_of value
  threads_of (arith_t at op left right) = threads_of left + threads_of right
  threads_of (join_t at task) = threads_of task
  threads_of (mutex_t at value) = threads_of value
  threads_of (dup_t at of) = 0
  threads_of (lock_t at of name body) = threads_of body
  threads_of (spawn_t at captures body) = threads_of body + 1
  threads_of (par_t at captures body others other) = threads_of body + threads_of other + 2

  pub threads_in : Items → ℕ
  threads_in none = 0
  threads_in (item first rest) = threads_of first + threads_in rest

-- what its threads do is a block, as in each source
abbrev mutual
  pub HasBlocks : Term → Type 0
  HasBlocks (block_t at items) = HaveBlocks items
  HasBlocks (let_t at name value) = HasBlocks value
  HasBlocks (assign_t at to value) = HasBlocks value
  HasBlocks (read_t at from) = ⊤
  HasBlocks (borrow_t at of) = ⊤
  HasBlocks (borrow_mut_t at of) = ⊤
  HasBlocks (number_t at value) = ⊤
  HasBlocks (unit_t at) = ⊤
  HasBlocks (box_t at value) = HasBlocks value
  HasBlocks (print_t at value) = HasBlocks value
  HasBlocks (arith_t at op left right) = HasBlocks left × HasBlocks right
  HasBlocks (join_t at task) = HasBlocks task
  HasBlocks (mutex_t at value) = HasBlocks value
  HasBlocks (dup_t at of) = ⊤
  HasBlocks (lock_t at of name body) = HasBlocks body
  HasBlocks (spawn_t at captures body) = IsBlock body × HasBlocks body
  HasBlocks (par_t at captures body others other) = (IsBlock body × HasBlocks body) × (IsBlock other × HasBlocks other)

  pub HaveBlocks : Items → Type 0
  HaveBlocks none = ⊤
  HaveBlocks (item first rest) = HasBlocks first × HaveBlocks rest

-- the steps that a program has before it, those of all its threads, and its threads, main among them, are at most twice its nodes
abbrev pub ProgramsDoFewSteps : Type 0
ProgramsDoFewSteps = (at : ℕ) (items : Items) → HaveBlocks items → life_left (alive (program (block_t at items))) + (threads_in items + 1) ≤ 2 * nodes_of (block_t at items)
