-- What the server that started a thread has noted of it (this project's rules): a result goes to the one that asks, and is
-- asked for or let go once; a pair's parent is told once both have ended.
use Rattle.std.specs.Prelude.{ℕ, Bool, true, false, not, is_some, ◌==◌, ◌&&◌, ◌||◌, if◌then◌else◌, List, [], ◌∷◌, ◌++◌, Option, Some, None}
use Rattle.heap_partition.specs.declared.value.Owned.{Owned}
use Rattle.join_home.specs.declared.answers.EndedAs.{EndedAs}
use Rattle.join_home.specs.declared.answers.EndedAs.TheVariants.{Answer, Both, LetGo, Kept}

-- it goes on and somebody has its task; it goes on and its task was dropped; it has ended with this result; it goes on and this
-- server's thread has asked for its result; it is a branch of a pair whose parent waits, and whether this branch has ended
pub data TaskState : Type 0 where
  going : TaskState
  let_go : TaskState
  kept : (result : Owned) → TaskState
  asked : (server thread : ℕ) → TaskState
  in_pair : (parent : ℕ) → (over : Bool) → TaskState

-- a thread that the server started
pub record Task : Type 0 where
  pub thread : ℕ
  pub state : TaskState

abbrev pub state_in : Option Task → Option TaskState
state_in None = None
state_in (Some x) = Some x.state

abbrev pub task_in : List Task → ℕ → Option Task
task_in [] t = None
task_in (x ∷ xs) t = if x.thread == t then Some x else task_in xs t

-- what is noted of a thread
abbrev pub state_of : List Task → ℕ → Option TaskState
state_of xs t = state_in (task_in xs t)

abbrev pub is_noted : List Task → ℕ → Bool
is_noted xs t = is_some (task_in xs t)

abbrev pub with_state : List Task → ℕ → TaskState → List Task
with_state [] t s = []
with_state (x ∷ xs) t s = if x.thread == t then record { thread = t; state = s } ∷ xs else x ∷ with_state xs t s

abbrev pub without_task : List Task → ℕ → List Task
without_task [] t = []
without_task (x ∷ xs) t = if x.thread == t then xs else x ∷ without_task xs t

abbrev pub has_parent : ℕ → TaskState → Bool
has_parent p (in_pair q over) = p == q
has_parent p s = false

-- a pair of this parent is there
abbrev pub has_pair : List Task → ℕ → Bool
has_pair [] p = false
has_pair (x ∷ xs) p = has_parent p x.state || has_pair xs p

abbrev pub noted : List Task → ℕ → TaskState → List Task
noted xs t s = xs ++ record { thread = t; state = s } ∷ []

abbrev pub can_begin : List Task → ℕ → Bool
can_begin xs t = not (is_noted xs t)

-- a thread starts, and somebody has its task
abbrev pub begin : List Task → ℕ → List Task
begin xs t = noted xs t going

abbrev pub can_begin_pair : List Task → ℕ → ℕ → ℕ → Bool
can_begin_pair xs parent a b = (can_begin xs a && can_begin xs b) && (not (a == b) && not (has_pair xs parent))

-- two threads start, and their parent waits for both
abbrev pub begin_pair : List Task → ℕ → ℕ → ℕ → List Task
begin_pair xs parent a b = noted (noted xs a (in_pair parent false)) b (in_pair parent false)

-- the others of a pair that have ended
abbrev pub over_of : ℕ → TaskState → Bool
over_of p (in_pair q over) = (p == q) && over
over_of p s = false

abbrev pub over_in : List Task → ℕ → Option ℕ
over_in [] p = None
over_in (x ∷ xs) p = if over_of p x.state then Some x.thread else over_in xs p

abbrev pub pair_ended : List Task → ℕ → ℕ → Option ℕ → List Task × EndedAs
pair_ended xs t parent None = (with_state xs t (in_pair parent true), Kept)
pair_ended xs t parent (Some other) = (without_task (without_task xs t) other, Both parent)

abbrev pub ended_from : List Task → ℕ → Owned → Option TaskState → Option (List Task × EndedAs)
ended_from xs t v None = None
ended_from xs t v (Some going) = Some (with_state xs t (kept v), Kept)
ended_from xs t v (Some let_go) = Some (without_task xs t, LetGo v)
ended_from xs t v (Some (kept u)) = None
ended_from xs t v (Some (asked server thread)) = Some (without_task xs t, Answer server thread v)
ended_from xs t v (Some (in_pair parent true)) = None
ended_from xs t v (Some (in_pair parent false)) = Some (pair_ended xs t parent (over_in xs parent))

-- a thread has ended with that result; None where it isn't there or has ended before
abbrev pub ended : List Task → ℕ → Owned → Option (List Task × EndedAs)
ended xs t v = ended_from xs t v (state_of xs t)

abbrev pub asked_from : List Task → ℕ → ℕ → ℕ → Option TaskState → Option (List Task × Option Owned)
asked_from xs t server by (Some going) = Some (with_state xs t (asked server by), None)
asked_from xs t server by (Some (kept v)) = Some (without_task xs t, Some v)
asked_from xs t server by _ = None

-- a thread at that server asks for the result, and has it where the thread has ended; None where the thread isn't there, is in a
-- pair, or was asked for or let go before
abbrev pub ask : List Task → ℕ → ℕ → ℕ → Option (List Task × Option Owned)
ask xs t server by = asked_from xs t server by (state_of xs t)

abbrev pub let_go_from : List Task → ℕ → Option TaskState → Option (List Task × Option Owned)
let_go_from xs t (Some going) = Some (with_state xs t let_go, None)
let_go_from xs t (Some (kept v)) = Some (without_task xs t, Some v)
let_go_from xs t _ = None

-- the task is dropped, and the result comes where the thread has ended; None as for `ask`
abbrev pub let_go_of : List Task → ℕ → Option (List Task × Option Owned)
let_go_of xs t = let_go_from xs t (state_of xs t)
