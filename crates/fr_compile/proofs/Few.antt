-- A checked program has few steps: each node pays for four, and there are at most 2^28 nodes.
use Rattle.std.proofs.Common.{◌≡◌, ℕ, zero, suc, ◌+◌, ◌*◌, ◌<◌, ◌≤◌, ◌^◌, Bool, true, false, List, [], ◌∷◌, ◌++◌, length, Option, None, refl, ap, arith, length-append}
use Rattle.fr_terms.specs.Terms.{Captured, Term, block_t, let_t, assign_t, read_t, borrow_t, borrow_mut_t, number_t, unit_t, box_t, print_t, arith_t, join_t, mutex_t, dup_t, lock_t, spawn_t, par_t, Items, none, item}
use Rattle.fr_typing.specs.Places.{Env}
use Rattle.fr_typing.specs.Captures.{Capturer, by_spawn, by_par, env_left, env_new, env_left_by_all, env_of_all}
use Rattle.fr_typing.specs.Typing.{typing}
use Rattle.fr_syntax.specs.Meanings.{meaning_at, meanings, root_of, term_of}
use Rattle.fr_syntax.proofs.TreeLemmas.{length_meanings}
use Rattle.borrow_check.specs.declared.usage.Usage.{Usage}
use Rattle.borrow_check.specs.Programs.{Program, IsChecked}
use Rattle.borrow_check.specs.Usages.{capture_usages, env_locked as locked, usages_of, usages_in, AreUsed}
use Rattle.fr_typing.specs.Finding.{env_after}
use Rattle.borrow_check.proofs.NodeLemmas.{nodes_few}
use Rattle.fr_plain.specs.Run.{Run, Parts, one_if_temporary, leaves, steps_left, steps_in}
use Rattle.fr_plain.specs.Resolve.{lets_in, lets, dropping, env_locked, before, resolve, resolve_items, program}

-- a value before a `;` is dropped in one step
one_at_most : (b : Bool) → one_if_temporary b ≤ 1
one_at_most true = omega arith
one_at_most false = omega arith

before_few : (ts : Items) (r : Run) (rest : Parts) → steps_in (before ts r rest) ≤ steps_left r + 1 + steps_in rest
before_few none r rest = omega arith
before_few (item t ts) r rest = omega (arith, one_at_most (leaves r))

captures_long : (by : Capturer) (e n : Env) (cs : List Captured) → length (capture_usages by e n cs) ≡ length cs
captures_long by e n [] = refl
captures_long by e n (c ∷ cs) = ap suc (captures_long by (env_left by e n c) (env_new by e n c) cs)

-- drops before an unlock
dropping_few : (k : ℕ) (r : Run) → steps_left (dropping k r) ≡ steps_left r + k
dropping_few zero r = omega arith
dropping_few (suc k) r = refl

mutual
  -- of a term, with the variables that it declares
  steps_few : (t : Term) (e d : Env) → steps_left (resolve t e) + lets_in t + 1 ≤ 4 * length (usages_of t d)
  steps_few (number_t at n) e d = omega arith
  steps_few (unit_t at) e d = omega arith
  steps_few (read_t at w) e d = omega arith
  steps_few (borrow_t at w) e d = omega arith
  steps_few (borrow_mut_t at w) e d = omega arith
  steps_few (box_t at t) e d = omega (arith, steps_few t e d, length-append (usages_of t d) (None ∷ []))
  steps_few (print_t at t) e d = omega (arith, steps_few t e d, length-append (usages_of t d) (None ∷ []))
  steps_few (let_t at x t) e d = omega (arith, steps_few t e d, length-append (usages_of t d) (None ∷ []))
  steps_few (join_t at t) e d = omega (arith, steps_few t e d, length-append (usages_of t d) (None ∷ []))
  steps_few (assign_t at w t) e d = omega (arith, steps_few t e d, length-append (usages_of t d) (None ∷ []))
  steps_few (arith_t at op a b) e d =
      let d1 = env_after (typing a d) in
      omega (arith, steps_few a e d, steps_few b (env_after (typing a e)) d1, length-append (usages_of a d ++ usages_of b d1) (None ∷ []), length-append (usages_of a d) (usages_of b d1))
  steps_few (block_t at ts) e d = omega (arith, items_few ts e d, length-append (usages_in ts d) (None ∷ []))
  steps_few (spawn_t at cs t) e d =
      let us = capture_usages by_spawn d [] cs in
      let vs = usages_of t (env_of_all by_spawn d cs) in
      omega (arith, steps_few t (env_of_all by_spawn e cs) (env_of_all by_spawn d cs), captures_long by_spawn d [] cs, length-append (us ++ vs) (None ∷ []), length-append us vs)
  steps_few (mutex_t at t) e d = omega (arith, steps_few t e d, length-append (usages_of t d) (None ∷ []))
  steps_few (dup_t at w) e d = omega arith
  steps_few (lock_t at w x t) e d =
      let e1 = env_locked e w x in
      let us = usages_of t (locked at d w x) in
      omega (arith, steps_few t e1 (locked at d w x), dropping_few (lets_in t) (resolve t e1), length-append us (None ∷ []))
  steps_few (par_t at cs t ds u) e d =
      let e1 = env_left_by_all by_par e cs in
      let d1 = env_left_by_all by_par d cs in
      let a = capture_usages by_par d [] cs in
      let us = usages_of t (env_of_all by_par d cs) in
      let b = capture_usages by_par d1 [] ds in
      let vs = usages_of u (env_of_all by_par d1 ds) in
      omega (
        arith,
        steps_few t (env_of_all by_par e cs) (env_of_all by_par d cs),
        steps_few u (env_of_all by_par e1 ds) (env_of_all by_par d1 ds),
        captures_long by_par d [] cs,
        captures_long by_par d1 [] ds,
        length-append (a ++ (us ++ (b ++ vs))) (None ∷ []),
        length-append a (us ++ (b ++ vs)),
        length-append us (b ++ vs),
        length-append b vs,
      )

  -- of the items of a block, with the variables that it drops
  items_few : (ts : Items) (e d : Env) → steps_in (resolve_items ts e) + lets ts ≤ 4 * length (usages_in ts d)
  items_few none e d = omega arith
  items_few (item t ts) e d =
      let d1 = env_after (typing t d) in
      let e1 = env_after (typing t e) in
      omega (arith, steps_few t e d, items_few ts e1 d1, before_few ts (resolve t e) (resolve_items ts e1), length-append (usages_of t d) (usages_in ts d1))

-- as many nodes as usages
used_long : (us : List Usage) (ns : List ℕ) (ms : List (Option Usage)) → AreUsed us ns ms → length ns ≡ length ms
used_long us [] [] h = refl
used_long us (n ∷ ns) (m ∷ ms) h = ap suc (used_long us ns ms h.1)
used_long us [] (m ∷ ms) h = absurd h
used_long us (n ∷ ns) [] h = absurd h

-- of a checked program
pub program_few : (p : Program) → IsChecked p → steps_left (program (term_of p.arena)) + 1 ≤ 2 ^ 30
program_few p c =
    let a = p.arena in
    let ns = (meaning_at (meanings a) (root_of a)).nodes in
    let there : root_of a < length (meanings a) = omega (arith, c.checkable.tree.some, length_meanings a) in
    omega (arith, steps_few (term_of a) [] [], used_long p.usages ns (usages_of (term_of a) []) c.used, nodes_few a (root_of a) c.arena there c.checkable.tree.own)
