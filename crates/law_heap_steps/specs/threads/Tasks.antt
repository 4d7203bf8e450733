-- WHICH INSTRUCTIONS: those of threads that start others, that end, or that wait for others. (A join that asks for its answer does no plain step)
use Rattle.std.specs.Prelude.{◌≡◌, ◌⊎◌, ◌==◌, Bool, true, false, Option, Some}
use Rattle.law_heap_steps.specs.Below.fr_base.Lists.{last_of}
use Rattle.law_heap_steps.specs.Below.fr_base.declared.instruction.Operand.{Operand}
use Rattle.law_heap_steps.specs.Below.fr_base.declared.instruction.Operand.TheVariants as operand
use Rattle.law_heap_steps.specs.Below.fr_base.declared.instruction.Instr.{Instr}
use Rattle.law_heap_steps.specs.Below.fr_base.declared.instruction.Instr.TheVariants as instr
use Rattle.law_heap_steps.specs.Below.heap_partition.declared.value.Owned.TheVariants as owned
use Rattle.law_heap_steps.specs.Below.thread_state.View.{ThreadState}
use Rattle.law_heap_steps.specs.Below.thread_state.declared.value.Value.{Value}
use Rattle.law_heap_steps.specs.Below.thread_state.declared.value.Value.TheVariants as value
use Rattle.law_heap_steps.specs.Below.server_model.declared.event.Event.{Event}
use Rattle.law_heap_steps.specs.Below.server_model.Servers.{Cluster}
use Rattle.law_heap_steps.specs.Below.server_model.Clusters.{apply}
use Rattle.law_heap_steps.specs.Below.coherent_memory.Sight.{sight}
use Rattle.law_heap_steps.specs.Below.coherent_memory.OneHeap.{task_n, is_in_state}
use Rattle.law_heap_steps.specs.Below.coherent_memory.Coherent.{IsSound}
use Rattle.law_heap_steps.specs.Below.law_counts_sums.Laws.{Gives, FewEvents}
use Rattle.law_heap_steps.specs.turns.Turns.{IsPlainStep, none_goes, instr_of, thread_of}

-- the end of a pair
abbrev pub ends_pair : Instr → Bool
ends_pair instr.ParEnd = true
ends_pair i = false

-- the result of another thread
abbrev pub joins_thread : Instr → Bool
joins_thread (instr.Join o) = true
joins_thread i = false

-- a new thread, whose task the thread has
abbrev pub starts_thread : Instr → Bool
starts_thread (instr.Spawn cs body) = true
starts_thread i = false

-- a pair of threads, for which the thread waits
abbrev pub starts_pair : Instr → Bool
starts_pair (instr.Par cs body ds other) = true
starts_pair i = false

-- THE END OF A THREAD

-- what it ends with
abbrev pub ends_with : Operand → ThreadState → Option Value
ends_with operand.Pop y = last_of y.temps
ends_with operand.Unit y = Some (value.Own owned.Unit)
ends_with (operand.Const n) y = Some (value.Own (owned.Int n))

-- that lets nothing go, or the thread isn't main and a task value of it is in the state, so that somebody will have it
abbrev pub IsKept : Cluster → Operand → ThreadState → Type 0
IsKept k o y = (none_goes (ends_with o y) ≡ true) ⊎ (((y.number == 0) ≡ false) × (is_in_state (sight k) (task_n y.number) ≡ true))

-- from a sound cluster, each end of a thread is a plain step, its messages handed over, where what it ends with is such afterwards. (Else that is dropped)
abbrev pub EndsArePlain : Type 0
EndsArePlain =
    (k : Cluster) (e : Event) (o : Operand) (y : ThreadState) → instr_of k e ≡ Some (instr.End o) → thread_of k e ≡ Some y → IsSound k → FewEvents k → Gives (λ d. IsKept d.0 o y → IsPlainStep k d) (apply k e)
