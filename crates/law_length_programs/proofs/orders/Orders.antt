-- An order of a program takes its steps from those that the program has before it, and its threads from those that the program starts.
use Rattle.std.proofs.Common.{◌≡◌, ◌≤◌, ℕ, zero, suc, ◌+◌, List, [], ◌∷◌, length, Option, Some, None, refl, ap, arith}
use Rattle.fr_terms.specs.Terms.{Term, block_t, let_t, assign_t, read_t, borrow_t, borrow_mut_t, number_t, unit_t, box_t, print_t, arith_t, join_t, mutex_t, dup_t, lock_t, spawn_t, par_t, Items, none, item}
use Rattle.fr_typing.specs.Places.{Env}
use Rattle.fr_typing.specs.Finding.{env_after}
use Rattle.fr_typing.specs.Typing.{typing}
use Rattle.fr_typing.specs.Captures.{by_spawn, by_par, env_of_all, env_left_by_all}
use Rattle.fr_plain.specs.Run.{Run, Parts, alive, life_left}
use Rattle.fr_plain.specs.Resolve.{lets_in, dropping, env_locked, before, program, resolve, resolve_items}
use Rattle.fr_plain.specs.Whole.{Whole, Turn, Stepped, then_labels, go_on, step, run, start}
use Rattle.fr_meaning.specs.PoolView.{total_left}
use Rattle.fr_meaning.proofs.StepsLeft.{settle_left}
use Rattle.fr_meaning.proofs.TotalLeft.{step_total as steps_fall}
use Rattle.law_length_programs.specs.sizes.Size.{threads_of, threads_in, ProgramsDoFewSteps}
use Rattle.law_length_programs.specs.orders.Orders.{started, OrdersAreShort}
use Rattle.law_length_programs.proofs.orders.Births.{births, births_in, settle_fewer}
use Rattle.law_length_programs.proofs.orders.Total.{total, step_total}

-- A PROGRAM'S THREADS

dropping_births : (k : ℕ) (r : Run) → births (dropping k r) ≡ births r
dropping_births zero r = refl
dropping_births (suc k) r = refl

mutual
  -- a term that is resolved starts the threads that the term does
  resolved : (t : Term) (e : Env) → births (resolve t e) ≤ threads_of t
  resolved (block_t at items) e = items_resolved items e
  resolved (let_t at name value) e = resolved value e
  resolved (assign_t at to value) e = resolved value e
  resolved (read_t at from) e = omega arith
  resolved (borrow_t at of) e = omega arith
  resolved (borrow_mut_t at of) e = omega arith
  resolved (number_t at value) e = omega arith
  resolved (unit_t at) e = omega arith
  resolved (box_t at value) e = resolved value e
  resolved (print_t at value) e = resolved value e
  resolved (arith_t at op left right) e = omega (arith, resolved left e, resolved right (env_after (typing left e)))
  resolved (join_t at task) e = resolved task e
  resolved (mutex_t at value) e = resolved value e
  resolved (dup_t at of) e = omega arith
  resolved (lock_t at of name body) e =
      let r = resolve body (env_locked e of name) in
      omega (arith, resolved body (env_locked e of name), dropping_births (lets_in body) r)
  resolved (spawn_t at captures body) e = omega (arith, resolved body (env_of_all by_spawn e captures))
  resolved (par_t at captures body others other) e = omega (arith, resolved body (env_of_all by_par e captures), resolved other (env_of_all by_par (env_left_by_all by_par e captures) others))

  items_resolved : (items : Items) (e : Env) → births_in (resolve_items items e) ≤ threads_in items
  items_resolved none e = omega arith
  items_resolved (item first rest) e = omega (arith, resolved first e, before_resolved rest (resolve first e) (resolve_items rest (env_after (typing first e))) (items_resolved rest (env_after (typing first e))))

  before_resolved : (rest : Items) (r : Run) (is : Parts) → births_in is ≤ threads_in rest → births_in (before rest r is) ≤ births r + threads_in rest
  before_resolved none r is l = omega arith
  before_resolved (item first rest) r is l = omega (arith, l)

-- AN ORDER

-- what is left after an order
record Takes (s : Whole) (order : List Turn) (x : Stepped) : Type 0 where
  steps : total_left x.state.threads + length order ≡ total_left s.threads
  threads : total x.state.threads + started order ≤ total s.threads

takes : (order : List Turn) (s : Whole) (x : Stepped) → run s order ≡ Some x → Takes s order x
takes [] s x e = let same : s ≡ x.state = states x e in record { steps = omega (arith, ap (λ (y : Whole). total_left y.threads) same); threads = omega (arith, ap (λ (y : Whole). total y.threads) same) }
  where
    states : (x : Stepped) → Some (record { state = s; labels = [] }) ≡ Some x → s ≡ x.state
    states x e = cc
takes (turn ∷ order) s x e = by (step s turn.0 turn.1) refl (λ y z q. takes order y z q) e
  where
    later : (y : Stepped) (o : Option Stepped) → run y.state order ≡ o → ((z : Stepped) → run y.state order ≡ Some z → Takes y.state order z) → then_labels y.labels o ≡ Some x → Takes y.state order x
    later y None q go h = absurd (cc h)
    later y (Some z) q go h =
        let t = go z q in
        let same : z.state ≡ x.state = cc in
        record { steps = omega (arith, t.steps, ap (λ (w : Whole). total_left w.threads) same); threads = omega (arith, t.threads, ap (λ (w : Whole). total w.threads) same) }

    by : (o : Option Stepped) → step s turn.0 turn.1 ≡ o → ((y : Whole) (z : Stepped) → run y order ≡ Some z → Takes y order z) → go_on o (λ y. run y order) ≡ Some x → Takes s (turn ∷ order) x
    by None q go h = absurd (cc h)
    by (Some y) q go h =
        let t = later y (run y.state order) refl (go y.state) h in
        let one = steps_fall s turn.0 turn.1 y q in
        let more = step_total s turn.0 turn.1 y q in
        record { steps = omega (arith, t.steps, one); threads = omega (arith, t.threads, more) }

pub orders_are_short : ProgramsDoFewSteps → OrdersAreShort
orders_are_short few at items order x blocks e =
    let r = program (block_t at items) in
    let t = takes order (start r) x e in
    let all = few at items blocks in
    let steps : total_left (start r).threads ≡ life_left (alive r) = omega (arith, (settle_left r).0) in
    omega (arith, t.steps, t.threads, all, steps, births_of)
  where
    births_of : total (start (program (block_t at items))).threads ≤ threads_in items
    births_of = omega (arith, items_resolved items [], settle_fewer (resolve (block_t at items) []))
