-- How the nodes of a typed term use their places (this project's rule).
use Rattle.std.specs.Prelude.{◌≡◌, ℕ, Bool, false, not, ⊤, List, [], ◌∷◌, ◌++◌, length, slice_set, slice_get, Option, Some, None, unwrap_or}
use Rattle.fr_terms.specs.Terms.{Text, Spot, Captured, Term, number_t, unit_t, block_t, let_t, assign_t, read_t, borrow_t, borrow_mut_t, box_t, print_t, arith_t, join_t, mutex_t, dup_t, lock_t, spawn_t, par_t, Items, none, item}
use Rattle.fr_typing.specs.Kinds.{own, unit, copies}
use Rattle.fr_typing.specs.Places.{Env, type_at, slot_of}
use Rattle.fr_typing.specs.Checks.{place_of}
use Rattle.fr_typing.specs.Finding.{Outcome, typed, fault, env_after, is_moved, find_shown}
use Rattle.fr_typing.specs.Rules.{lock_rule}
use Rattle.fr_typing.specs.Captures.{Capturer, by_spawn, by_par, spot_of, env_left, env_new, env_left_by_all, env_of_all}
use Rattle.fr_typing.specs.Typing.{typing}
use Rattle.fr_syntax.specs.Meanings.{AllBelow}
use Rattle.borrow_check.specs.declared.usage.Usage.{Usage}

-- a typed read that moves
abbrev pub is_taken : Outcome → Bool
is_taken (typed k e) = not (copies k)
is_taken (fault at r) = false

-- a place that is found in an environment, and whether it is taken out
abbrev pub usage_of : Env → Spot → Bool → Usage
usage_of e w taken = record { slot = unwrap_or (slot_of e w.name) 0; takes = taken }

abbrev pub read_usage : Spot → Env → Usage
read_usage w e = usage_of e w (is_taken (typing (read_t 0 w) e))

-- CAPTURES

-- a captured name's slot, and whether its value goes to the new thread
abbrev pub capture_usage : Env → Captured → Usage
capture_usage e c = usage_of e (spot_of c) (is_moved (type_at e (place_of (spot_of c) (unwrap_or (slot_of e c.name) 0))))

-- for each captured name its usage, from the environments before it
abbrev pub capture_usages : Capturer → Env → Env → List Captured → List (Option Usage)
capture_usages by e n [] = []
capture_usages by e n (c ∷ cs) = Some (capture_usage e c) ∷ capture_usages by (env_left by e n c) (env_new by e n c) cs

-- LOCKS

-- the environment of a lock's block: with the slots of the mutex and of its content
abbrev pub env_locked : ℕ → Env → Spot → Text → Env
env_locked at e w x = env_after (find_shown e w (lock_rule at e w x (λ e1. typed (own unit) e1)))

-- TERMS

abbrev mutual
  -- for each node of a term, in the order of its nodes, the usage where it is a place, a read or a captured name, from the environment before
  -- the term
  pub usages_of : Term → Env → List (Option Usage)
  usages_of (block_t at ts) e = usages_in ts e ++ None ∷ []
  usages_of (let_t at x t) e = usages_of t e ++ None ∷ []
  usages_of (assign_t at w t) e = Some (usage_of (env_after (typing t e)) w false) ∷ usages_of t e ++ None ∷ []
  usages_of (read_t at w) e = Some (read_usage w e) ∷ Some (read_usage w e) ∷ []
  usages_of (borrow_t at w) e = Some (usage_of e w false) ∷ None ∷ []
  usages_of (borrow_mut_t at w) e = Some (usage_of e w false) ∷ None ∷ []
  usages_of (box_t at t) e = usages_of t e ++ None ∷ []
  usages_of (print_t at t) e = usages_of t e ++ None ∷ []
  usages_of (arith_t at op a b) e = (usages_of a e ++ usages_of b (env_after (typing a e))) ++ None ∷ []
  usages_of (join_t at t) e = usages_of t e ++ None ∷ []
  usages_of (mutex_t at t) e = usages_of t e ++ None ∷ []
  usages_of (dup_t at w) e = Some (usage_of e w false) ∷ None ∷ []
  usages_of (lock_t at w x b) e = Some (usage_of e w false) ∷ usages_of b (env_locked at e w x) ++ None ∷ []
  usages_of (spawn_t at cs b) e = (capture_usages by_spawn e [] cs ++ usages_of b (env_of_all by_spawn e cs)) ++ None ∷ []
  usages_of (par_t at cs a ds b) e =
      (capture_usages by_par e [] cs ++ (usages_of a (env_of_all by_par e cs)
      ++ (capture_usages by_par (env_left_by_all by_par e cs) [] ds ++ usages_of b (env_of_all by_par (env_left_by_all by_par e cs) ds)))) ++ None ∷ []
  usages_of (number_t at n) e = None ∷ []
  usages_of (unit_t at) e = None ∷ []

  pub usages_in : Items → Env → List (Option Usage)
  usages_in none e = []
  usages_in (item t ts) e = usages_of t e ++ usages_in ts (env_after (typing t e))

-- the usages of two operands, the second one from the environment that the first one leaves
abbrev pub operand_usages : Term → Term → Env → List (Option Usage)
operand_usages a b e = usages_of a e ++ usages_of b (env_after (typing a e))

-- the usages of a new thread's captured names, and of its body from them alone
abbrev pub thread_usages : Capturer → List Captured → Term → Env → List (Option Usage)
thread_usages by cs b e = capture_usages by e [] cs ++ usages_of b (env_of_all by e cs)

-- these usages, at these nodes, in a list by node
abbrev pub IsUsed : List Usage → ℕ → Option Usage → Type 0
IsUsed us n None = ⊤
IsUsed us n (Some u) = slice_get us n ≡ Some u

abbrev pub AreUsed : List Usage → List ℕ → List (Option Usage) → Type 0
AreUsed us [] [] = ⊤
AreUsed us (n ∷ ns) (m ∷ ms) = IsUsed us n m × AreUsed us ns ms
AreUsed us [] (m ∷ ms) = ⊥
AreUsed us (n ∷ ns) [] = ⊥

-- the list with these usages written one after another
abbrev pub write : List Usage → ℕ → Option Usage → List Usage
write us n None = us
write us n (Some u) = slice_set us n u

abbrev pub written : List Usage → List ℕ → List (Option Usage) → List Usage
written us [] ms = us
written us (n ∷ ns) [] = us
written us (n ∷ ns) (m ∷ ms) = written (write us n m) ns ms

-- a term's usages were written, one for each of its nodes
pub record AreWritten (old new : List Usage) (ns : List ℕ) (ms : List (Option Usage)) : Type 0 where
  pub same : new ≡ written old ns ms
  pub each : length ns ≡ length ms
  pub within : AllBelow (length old) ns

-- the usages of some nodes were written, and then those of others
pub record AreBothWritten (old new : List Usage) (ns ks : List ℕ) (ms ls : List (Option Usage)) : Type 0 where
  pub between : List Usage
  pub first : AreWritten old between ns ms
  pub second : AreWritten between new ks ls
