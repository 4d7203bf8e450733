-- In the term of a source no step was made.
use Rattle.std.proofs.Common.{ℕ, zero, suc}
use Rattle.fr_terms.specs.Terms.{Term, block_t, let_t, assign_t, read_t, borrow_t, borrow_mut_t, number_t, unit_t, box_t, print_t, arith_t, join_t, mutex_t, dup_t, lock_t, spawn_t, par_t, Items, none, item}
use Rattle.fr_typing.specs.Places.{Env}
use Rattle.fr_typing.specs.Finding.{env_after}
use Rattle.fr_typing.specs.Captures.{by_spawn, by_par, env_left_by_all, env_of_all}
use Rattle.fr_typing.specs.Typing.{typing}
use Rattle.fr_plain.specs.Run.{Run, Parts}
use Rattle.fr_plain.specs.Resolve.{lets_in, before, dropping, env_locked, resolve, resolve_items}
use Rattle.fr_code.specs.StandsFor.{IsSource, AreSource}

before_source : (ts : Items) (r : Run) (rest : Parts) → IsSource r → AreSource rest → AreSource (before ts r rest)
before_source none r rest s h = s
before_source (item t ts) r rest s h = (s, h)

dropping_source : (k : ℕ) (r : Run) → IsSource r → IsSource (dropping k r)
dropping_source zero r s = s
dropping_source (suc k) r s = s

mutual
  pub resolve_source : (t : Term) (e : Env) → IsSource (resolve t e)
  resolve_source (number_t at n) e = tt
  resolve_source (unit_t at) e = tt
  resolve_source (read_t at w) e = tt
  resolve_source (borrow_t at w) e = tt
  resolve_source (borrow_mut_t at w) e = tt
  resolve_source (box_t at t) e = resolve_source t e
  resolve_source (arith_t at op a b) e = (resolve_source a e, resolve_source b (env_after (typing a e)))
  resolve_source (print_t at t) e = resolve_source t e
  resolve_source (let_t at x t) e = resolve_source t e
  resolve_source (assign_t at w t) e = resolve_source t e
  resolve_source (block_t at ts) e = resolve_items_source ts e
  resolve_source (spawn_t at cs t) e = resolve_source t (env_of_all by_spawn e cs)
  resolve_source (join_t at t) e = resolve_source t e
  resolve_source (mutex_t at t) e = resolve_source t e
  resolve_source (dup_t at w) e = tt
  resolve_source (lock_t at w x t) e = dropping_source (lets_in t) (resolve t (env_locked e w x)) (resolve_source t (env_locked e w x))
  resolve_source (par_t at cs t ds u) e = (resolve_source t (env_of_all by_par e cs), resolve_source u (env_of_all by_par (env_left_by_all by_par e cs) ds))

  resolve_items_source : (ts : Items) (e : Env) → AreSource (resolve_items ts e)
  resolve_items_source none e = tt
  resolve_items_source (item t ts) e = before_source ts (resolve t e) (resolve_items ts (env_after (typing t e))) (resolve_source t e) (resolve_items_source ts (env_after (typing t e)))
