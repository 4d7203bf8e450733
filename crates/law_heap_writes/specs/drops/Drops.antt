-- WHICH INSTRUCTIONS: those that drop a value.
use Rattle.std.specs.Prelude.{◌≡◌, ◌⊎◌, ◌==◌, ◌||◌, Bool, true, false, Option, Some, None}
use Rattle.std.specs.Bool.{⊤}
use Rattle.law_words_writes.specs.Below.law_results_reads.Below.fr_base.declared.name.MutexNo.{MutexNo}
use Rattle.law_words_writes.specs.Below.law_results_reads.Below.fr_base.declared.instruction.Operand.{Operand}
use Rattle.law_words_writes.specs.Below.law_results_reads.Below.fr_base.declared.instruction.Instr.{Instr}
use Rattle.law_words_writes.specs.Below.law_results_reads.Below.fr_base.declared.instruction.Instr.TheVariants as instr
use Rattle.law_words_writes.specs.Below.law_results_reads.Below.thread_state.View.{ThreadState}
use Rattle.law_words_writes.specs.Below.law_results_reads.Below.server_model.declared.event.Event.{Event}
use Rattle.law_words_writes.specs.Below.law_results_reads.Below.server_model.Servers.{Cluster}
use Rattle.law_words_writes.specs.Below.law_results_reads.Below.server_model.Clusters.{apply}
use Rattle.law_words_writes.specs.Below.law_results_reads.Below.coherent_memory.Sight.{sight}
use Rattle.law_words_writes.specs.Below.law_results_reads.Below.coherent_memory.OneHeap.{mutex_n, task_n, is_in_state, is_branch}
use Rattle.law_words_writes.specs.Below.law_results_reads.Below.coherent_memory.Coherent.{IsSound}
use Rattle.law_words_writes.specs.Below.law_results_reads.Below.law_counts_sums.Laws.{Gives, FewEvents}
use Rattle.law_heap_steps.specs.turns.Turns.{IsPlainStep, instr_of, thread_of}
use Rattle.law_heap_steps.specs.mutexes.Locks.{marked}

-- the temporary value on top
abbrev pub discards : Instr → Bool
discards instr.Discard = true
discards i = false

-- the last slot
abbrev pub drops_slot : Instr → Bool
drops_slot instr.DropSlot = true
drops_slot i = false

-- what stands in a variable that is assigned
abbrev pub assigns_variable : Instr → Bool
assigns_variable (instr.Assign w o) = w.depth == 0
assigns_variable i = false

-- AN UNLOCK

abbrev pub unlocks_mutex : Instr → Bool
unlocks_mutex instr.Unlock = true
unlocks_mutex i = false

-- no value of the mutex is in the state
abbrev pub IsGone : Cluster → Option MutexNo → Type 0
IsGone k None = ⊤
IsGone k (Some m) = is_in_state (sight k) (mutex_n m) ≡ false

-- from a sound cluster, each unlock of a mutex of which no value is in the state is a plain step, its messages handed over: the content is dropped
abbrev pub UnlocksOfGone : Type 0
UnlocksOfGone = (k : Cluster) (e : Event) (y : ThreadState) → instr_of k e ≡ Some instr.Unlock → thread_of k e ≡ Some y → IsGone k (marked y) → IsSound k → FewEvents k → Gives (IsPlainStep k) (apply k e)

-- THE END OF A THREAD

abbrev pub ends_thread : Instr → Bool
ends_thread (instr.End o) = true
ends_thread i = false

-- main, or a thread that was let go: no branch of a pair, and no task value of it is in the state
abbrev pub IsFree : Cluster → ThreadState → Type 0
IsFree k y = (y.number ≡ 0) ⊎ (is_branch (sight k) y.number || is_in_state (sight k) (task_n y.number) ≡ false)

-- from a sound cluster, each end of such a thread is a plain step, its messages handed over: its result is dropped
abbrev pub EndsOfFree : Type 0
EndsOfFree = (k : Cluster) (e : Event) (o : Operand) (y : ThreadState) → instr_of k e ≡ Some (instr.End o) → thread_of k e ≡ Some y → IsFree k y → IsSound k → FewEvents k → Gives (IsPlainStep k) (apply k e)
