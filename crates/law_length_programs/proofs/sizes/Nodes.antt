-- Each node of a program pays for two steps or threads.
use Rattle.std.proofs.Common.{◌≡◌, ◌≤◌, ℕ, zero, suc, ◌+◌, ◌*◌, Bool, true, false, [], refl, arith}
use Rattle.fr_terms.specs.Terms.{Term, block_t, let_t, assign_t, read_t, borrow_t, borrow_mut_t, number_t, unit_t, box_t, print_t, arith_t, join_t, mutex_t, dup_t, lock_t, spawn_t, par_t, Items, none, item, IsBlock}
use Rattle.fr_typing.specs.Places.{Env}
use Rattle.fr_typing.specs.Finding.{env_after}
use Rattle.fr_typing.specs.Typing.{typing}
use Rattle.fr_typing.specs.Captures.{by_spawn, by_par, env_of_all, env_left_by_all}
use Rattle.fr_plain.specs.Run.{Run, Parts, one_if_temporary, leaves, leaves_last, steps_left, steps_in}
use Rattle.fr_plain.specs.Resolve.{lets_in, lets, dropping, env_locked, before, resolve, resolve_items}
use Rattle.law_length_programs.specs.sizes.Size.{nodes_of, nodes_in, threads_of, threads_in, HasBlocks, HaveBlocks, ProgramsDoFewSteps}

-- a value that is left is dropped in one step
one_at_most : (b : Bool) → one_if_temporary b ≤ 1
one_at_most true = omega arith
one_at_most false = omega arith

-- a lock's body drops what it declares, and leaves what it left
dropping_steps : (k : ℕ) (r : Run) → steps_left (dropping k r) ≡ steps_left r + k
dropping_steps zero r = omega arith
dropping_steps (suc k) r = omega arith

dropping_leaves : (k : ℕ) (r : Run) → leaves (dropping k r) ≡ leaves r
dropping_leaves zero r = refl
dropping_leaves (suc k) r = refl

-- what a term costs: its steps, the drops of what it declares, that of the value that it leaves, and its threads
abbrev Costs : Term → Env → ℕ → Type 0
Costs t e n = steps_left (resolve t e) + lets_in t + one_if_temporary (leaves (resolve t e)) + threads_of t ≤ n

mutual
  term_costs : (t : Term) (e : Env) → HasBlocks t → Costs t e (2 * nodes_of t)
  term_costs (block_t at items) e h = let a = items_cost items e h in omega (arith, a)
  term_costs (let_t at name value) e h = let a = term_costs value e h in omega (arith, a)
  term_costs (assign_t at to value) e h = let a = term_costs value e h in omega (arith, a)
  term_costs (read_t at from) e h = omega arith
  term_costs (borrow_t at of) e h = omega arith
  term_costs (borrow_mut_t at of) e h = omega arith
  term_costs (number_t at value) e h = omega arith
  term_costs (unit_t at) e h = omega arith
  term_costs (box_t at value) e h = let a = term_costs value e h in omega (arith, a)
  term_costs (print_t at value) e h = let a = term_costs value e h in omega (arith, a)
  term_costs (arith_t at op left right) e h = let a = term_costs left e h.0 in let b = term_costs right (env_after (typing left e)) h.1 in omega (arith, a, b)
  term_costs (join_t at task) e h = let a = term_costs task e h in omega (arith, a)
  term_costs (mutex_t at value) e h = let a = term_costs value e h in omega (arith, a)
  term_costs (dup_t at of) e h = omega arith
  term_costs (lock_t at of name body) e h =
      let r = resolve body (env_locked e of name) in
      let a = term_costs body (env_locked e of name) h in
      omega (arith, a, dropping_steps (lets_in body) r, one_at_most (leaves (dropping (lets_in body) r)))
  term_costs (spawn_t at captures body) e h = let a = block_costs body (env_of_all by_spawn e captures) h.0 h.1 in omega (arith, a)
  term_costs (par_t at captures body others other) e h =
      let a = block_costs body (env_of_all by_par e captures) h.0.0 h.0.1 in
      let b = block_costs other (env_of_all by_par (env_left_by_all by_par e captures) others) h.1.0 h.1.1 in
      omega (arith, a, b)

  -- a block costs nothing itself
  block_costs : (t : Term) (e : Env) → IsBlock t → HasBlocks t → steps_left (resolve t e) + lets_in t + one_if_temporary (leaves (resolve t e)) + threads_of t + 2 ≤ 2 * nodes_of t
  block_costs (block_t at items) e b h = let a = items_cost items e h in omega (arith, a)
  block_costs (let_t at name value) e b h = absurd b
  block_costs (assign_t at to value) e b h = absurd b
  block_costs (read_t at from) e b h = absurd b
  block_costs (borrow_t at of) e b h = absurd b
  block_costs (borrow_mut_t at of) e b h = absurd b
  block_costs (number_t at value) e b h = absurd b
  block_costs (unit_t at) e b h = absurd b
  block_costs (box_t at value) e b h = absurd b
  block_costs (print_t at value) e b h = absurd b
  block_costs (arith_t at op left right) e b h = absurd b
  block_costs (join_t at task) e b h = absurd b
  block_costs (mutex_t at value) e b h = absurd b
  block_costs (dup_t at of) e b h = absurd b
  block_costs (lock_t at of name body) e b h = absurd b
  block_costs (spawn_t at captures body) e b h = absurd b
  block_costs (par_t at captures body others other) e b h = absurd b

  -- nor do the items together
  items_cost : (items : Items) (e : Env) → HaveBlocks items → steps_in (resolve_items items e) + lets items + one_if_temporary (leaves_last (resolve_items items e)) + threads_in items ≤ 2 * nodes_in items
  items_cost none e h = omega arith
  items_cost (item first rest) e h =
      let a = term_costs first e h.0 in
      let b = items_cost rest (env_after (typing first e)) h.1 in
      let c = before_costs rest (resolve first e) (resolve_items rest (env_after (typing first e))) b in
      omega (arith, a, c)

  before_costs : (rest : Items) (r : Run) (is : Parts) → steps_in is + lets rest + one_if_temporary (leaves_last is) + threads_in rest ≤ 2 * nodes_in rest
      → steps_in (before rest r is) + lets rest + one_if_temporary (leaves_last (before rest r is)) + threads_in rest ≤ steps_left r + one_if_temporary (leaves r) + 2 * nodes_in rest
  before_costs none r is l = omega arith
  before_costs (item first rest) r is l = omega (arith, l)

pub programs_do_few_steps : ProgramsDoFewSteps
programs_do_few_steps at items h = let a = items_cost items [] h in omega (arith, a)
