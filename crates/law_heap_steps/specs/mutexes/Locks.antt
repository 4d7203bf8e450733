-- WHICH INSTRUCTIONS: those at mutexes, and those that make objects. (A step that asks for an answer does no plain step)
use Rattle.std.specs.Prelude.{ℕ, zero, suc, slice_get, ◌≡◌, Bool, true, false, Option, Some, None}
use Rattle.std.specs.Bool.{⊤}
use Rattle.law_heap_steps.specs.Below.fr_base.Lists.{last_of}
use Rattle.law_heap_steps.specs.Below.fr_base.declared.name.MutexNo.{MutexNo}
use Rattle.law_heap_steps.specs.Below.fr_base.declared.instruction.Instr.{Instr}
use Rattle.law_heap_steps.specs.Below.fr_base.declared.instruction.Instr.TheVariants as instr
use Rattle.law_heap_steps.specs.Below.thread_state.View.{ThreadState}
use Rattle.law_heap_steps.specs.Below.thread_state.declared.value.Value.{Value}
use Rattle.law_heap_steps.specs.Below.server_model.declared.event.Event.{Event}
use Rattle.law_heap_steps.specs.Below.server_model.Servers.{Cluster}
use Rattle.law_heap_steps.specs.Below.server_model.Work.{front_of, mutex_of, then_some}
use Rattle.law_heap_steps.specs.Below.server_model.Commit.{held_of}
use Rattle.law_heap_steps.specs.Below.server_model.Clusters.{apply}
use Rattle.law_heap_steps.specs.Below.coherent_memory.Sight.{sight}
use Rattle.law_heap_steps.specs.Below.coherent_memory.OneHeap.{mutex_n, is_in_state}
use Rattle.law_heap_steps.specs.Below.coherent_memory.Coherent.{IsSound}
use Rattle.law_heap_steps.specs.Below.law_counts_sums.Laws.{Gives, FewEvents}
use Rattle.law_heap_steps.specs.turns.Turns.{IsPlainStep, instr_of, thread_of}

-- a box of a new object
abbrev pub makes_box : Instr → Bool
makes_box (instr.Box o) = true
makes_box i = false

-- a new mutex of a value
abbrev pub makes_mutex : Instr → Bool
makes_mutex (instr.Mutex o) = true
makes_mutex i = false

-- one more value of the mutex at a place, and the content of the mutex at a place
abbrev pub dups_mutex : Instr → Bool
dups_mutex (instr.Dup w) = true
dups_mutex i = false

abbrev pub locks_mutex : Instr → Bool
locks_mutex (instr.Lock w) = true
locks_mutex i = false

-- AN UNLOCK

-- the mutex whose mark stands below the last slot
abbrev pub marked : ThreadState → Option MutexNo
marked y = then_some (last_of (front_of y.slots)) held_of

-- some value of the mutex is in the state
abbrev pub IsThere : Cluster → Option MutexNo → Type 0
IsThere k None = ⊤
IsThere k (Some m) = is_in_state (sight k) (mutex_n m) ≡ true

-- from a sound cluster, each unlock of a mutex of which some value is in the state afterwards is a plain step, its messages handed over. (Else its content is
-- dropped)
abbrev pub UnlocksArePlain : Type 0
UnlocksArePlain =
    (k : Cluster) (e : Event) (y : ThreadState) → instr_of k e ≡ Some instr.Unlock → thread_of k e ≡ Some y → IsSound k → FewEvents k → Gives (λ d. IsThere d.0 (marked y) → IsPlainStep k d) (apply k e)

-- A VALUE OF A MUTEX THAT IS DROPPED

abbrev pub variable_share : ℕ → Option Value → Option MutexNo
variable_share zero v = then_some v mutex_of
variable_share (suc d) v = None

-- the mutex of the temporary value that is discarded, of the last slot's value, or of what stands in the variable that is assigned
abbrev pub dropped_share : Instr → ThreadState → Option MutexNo
dropped_share instr.Discard y = then_some (last_of y.temps) mutex_of
dropped_share instr.DropSlot y = then_some (last_of y.slots) mutex_of
dropped_share (instr.Assign w o) y = variable_share w.depth (slice_get y.slots w.slot)
dropped_share i y = None

-- from a sound cluster, each step that drops a value of a mutex is a plain step, its messages handed over, where another value of it is in the state afterwards. (Else its
-- content is dropped)
abbrev pub SharesGo : Type 0
SharesGo =
    (k : Cluster) (e : Event) (i : Instr) (y : ThreadState) (m : MutexNo) → instr_of k e ≡ Some i → thread_of k e ≡ Some y → dropped_share i y ≡ Some m → IsSound k → FewEvents k → Gives (λ d. is_in_state (sight d.0) (mutex_n m) ≡ true → IsPlainStep k d) (apply k e)
