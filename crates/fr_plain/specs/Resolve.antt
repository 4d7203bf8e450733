-- The running term of a source: slots for names, how many variables a block has, and for each read and capture whether
-- it moves, all as the typing has them (this project's rule).
use Rattle.std.specs.Prelude.{ℕ, zero, suc, ◌+◌, Bool, true, false, List, [], ◌∷◌, length, Option, Some, None, unwrap_or}
use Rattle.fr_base.specs.declared.place.Lval.{Lval}
use Rattle.fr_terms.specs.Terms.{Text, Spot, Term, block_t, let_t, assign_t, read_t, borrow_t, borrow_mut_t, number_t, unit_t, box_t, print_t, arith_t, join_t, mutex_t, dup_t, lock_t, spawn_t, par_t, Captured, Items, none, item}
use Rattle.fr_typing.specs.Kinds.{Owned, unit, whole}
use Rattle.fr_typing.specs.Places.{Env, Found, found, type_at, slot_of}
use Rattle.fr_typing.specs.Checks.{place_of, mutex_of, with_lock}
use Rattle.fr_typing.specs.Finding.{env_after, is_moved}
use Rattle.fr_typing.specs.Captures.{Capturer, by_spawn, by_par, spot_of, env_left, env_new, env_left_by_all, env_of_all}
use Rattle.fr_typing.specs.Typing.{typing}
use Rattle.fr_plain.specs.Run.{Capture, Run, unit_c, number, read, borrow, box_r, arith, bind, print, assign, block, spawn, join_r, mutex_r, dup, lock, par, Parts, last, more}

-- the place that a written place names
abbrev pub named : Env → Spot → Lval
named e w = place_of w (unwrap_or (slot_of e w.name) 0)

-- a read of a moved type takes the value out
abbrev pub moves : Env → Spot → Bool
moves e w = is_moved (type_at e (named e w))

-- CAPTURES

-- each captured name's slot, and whether its value is taken
abbrev pub captures : Capturer → Env → Env → List Captured → List Capture
captures by e n [] = []
captures by e n (c ∷ cs) = record { slot = (named e (spot_of c)).slot; take = moves e (spot_of c) } ∷ captures by (env_left by e n c) (env_new by e n c) cs

-- TERMS

abbrev mutual
  -- how many variables a term declares outside of the blocks in it
  pub lets_in : Term → ℕ
  lets_in (let_t at x t) = suc (lets_in t)
  lets_in (box_t at t) = lets_in t
  lets_in (print_t at t) = lets_in t
  lets_in (assign_t at w t) = lets_in t
  lets_in (arith_t at op a b) = lets_in a + lets_in b
  lets_in (join_t at t) = lets_in t
  lets_in (mutex_t at t) = lets_in t
  lets_in t = 0

  pub lets : Items → ℕ
  lets none = 0
  lets (item t ts) = lets_in t + lets ts

-- a term before these items, which are the rest
abbrev pub before : Items → Run → Parts → Parts
before none r rest = last r
before (item t ts) r rest = more r rest

-- a new thread's term drops what it declares and its captures at its end
abbrev pub body_of : List Captured → Term → Run → Run
body_of cs t r = block (length cs + lets_in t) (last r)

-- a lock's term drops what it declares before the mutex is unlocked
abbrev pub dropping : ℕ → Run → Run
dropping zero r = r
dropping (suc k) r = block (suc k) (last r)

abbrev pub content_or_unit : Option Owned → Owned
content_or_unit None = unit
content_or_unit (Some o) = o

abbrev content_in : Found → Owned
content_in (found (whole k)) = content_or_unit (mutex_of k)
content_in _ = unit

-- the environment of a lock's body: the hidden slot of the lock, and that of the content above it
abbrev pub env_locked : Env → Spot → Text → Env
env_locked e w x = with_lock e (named e w) x (content_in (type_at e (named e w)))

abbrev mutual
  pub resolve : Term → Env → Run
  resolve (number_t at n) e = number n
  resolve (unit_t at) e = unit_c
  resolve (read_t at w) e = read (named e w) (moves e w)
  resolve (borrow_t at w) e = borrow (named e w) false
  resolve (borrow_mut_t at w) e = borrow (named e w) true
  resolve (box_t at t) e = box_r (resolve t e)
  resolve (arith_t at op a b) e = arith op (resolve a e) (resolve b (env_after (typing a e)))
  resolve (print_t at t) e = print (resolve t e)
  resolve (let_t at x t) e = bind (resolve t e)
  resolve (assign_t at w t) e = assign (named (env_after (typing t e)) w) (resolve t e)
  resolve (block_t at ts) e = block (lets ts) (resolve_items ts e)
  resolve (spawn_t at cs t) e = spawn (captures by_spawn e [] cs) (body_of cs t (resolve t (env_of_all by_spawn e cs)))
  resolve (join_t at t) e = join_r (resolve t e)
  resolve (mutex_t at t) e = mutex_r (resolve t e)
  resolve (dup_t at w) e = dup (named e w)
  resolve (lock_t at w x t) e = lock (named e w) (dropping (lets_in t) (resolve t (env_locked e w x)))
  -- the second thread captures what the first leaves
  resolve (par_t at cs t ds u) e =
      par (captures by_par e [] cs) (body_of cs t (resolve t (env_of_all by_par e cs)))
      (captures by_par (env_left_by_all by_par e cs) [] ds) (body_of ds u (resolve u (env_of_all by_par (env_left_by_all by_par e cs) ds)))

  -- a block without items is the constant unit
  pub resolve_items : Items → Env → Parts
  resolve_items none e = last unit_c
  resolve_items (item t ts) e = before ts (resolve t e) (resolve_items ts (env_after (typing t e)))

-- the running term of a program
abbrev pub program : Term → Run
program t = resolve t []
