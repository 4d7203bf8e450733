-- Laws of events without a plain step: the one heap stays as it was.
use Rattle.std.specs.Prelude.{◌≡◌, ℕ, Some, None, slice_get}
use Rattle.law_counts_sums.specs.Below.fr_base.declared.instruction.Instr.TheVariants as instr
use Rattle.law_counts_sums.specs.Below.fr_base.declared.instruction.Operand.{Operand}
use Rattle.law_counts_sums.specs.Below.fr_plain.PlainState.{SameState}
use Rattle.law_counts_sums.specs.Below.journal.View.{EntryView}
use Rattle.law_counts_sums.specs.Below.server_model.declared.event.Event.{Event}
use Rattle.law_counts_sums.specs.Below.server_model.declared.event.What.TheVariants.{Step}
use Rattle.law_counts_sums.specs.Below.server_model.Servers.{Server, Cluster, server_at}
use Rattle.law_counts_sums.specs.Below.server_model.Work.{thread_in}
use Rattle.law_counts_sums.specs.Below.thread_state.View.{ThreadState}
use Rattle.law_counts_sums.specs.Below.server_model.Clusters.{apply}
use Rattle.law_counts_sums.specs.Below.coherent_memory.Things.{things_of}
use Rattle.law_counts_sums.specs.Below.coherent_memory.Sight.{sight}
use Rattle.law_counts_sums.specs.Below.coherent_memory.OneHeap.{one_heap}
use Rattle.law_counts_sums.specs.Below.coherent_memory.Coherent.{IsSound}
use Rattle.law_counts_sums.specs.Kinds.{Kind, kind_of}
use Rattle.law_counts_sums.specs.Laws.{Gives, FewEvents}
use Rattle.law_heap_still.specs.events.Shows.{CountAlike}

-- clusters of one code whose things show alike stand for the same one heap
abbrev pub AlikeStandForOne : Type 0
AlikeStandForOne = (k c : Cluster) → IsSound k → c.code ≡ k.code → CountAlike (sight k) (things_of k) (things_of c) → SameState (one_heap c) (one_heap k)

-- the event, with its messages handed over, leaves the one heap as it was
abbrev pub LeavesHeap : Cluster → Event → Type 0
LeavesHeap k e = Gives (λ (d : Cluster × EntryView). SameState (one_heap d.0) (one_heap k)) (apply k e)

-- the same where its entry has no `done`: it does no plain step
abbrev pub LeavesHeapUndone : Cluster → Event → Type 0
LeavesHeapUndone k e = Gives (λ (d : Cluster × EntryView). d.1.done ≡ None → SameState (one_heap d.0) (one_heap k)) (apply k e)

-- each event of that kind does, from a sound cluster
abbrev pub LeaveHeap : Kind → Type 0
LeaveHeap kind = (k : Cluster) (e : Event) → kind_of k e ≡ Some kind → IsSound k → FewEvents k → LeavesHeap k e

-- the step of a thread at a join without its gift, which asks for the result
abbrev pub JoinsThatAsk : Type 0
JoinsThatAsk =
    (k : Cluster) (n t : ℕ) (s : Server) (y : ThreadState) (o : Operand) → IsSound k → FewEvents k → server_at k.servers n ≡ Some s → thread_in s.threads t ≡ Some y → slice_get k.code y.pc ≡ Some (instr.Join o) → y.gift ≡ None
    → LeavesHeap k (record { server = n; what = Step t })

-- each step of a thread that does no plain step: it ends in a request
abbrev pub RequestsLeaveHeap : Type 0
RequestsLeaveHeap = (k : Cluster) (n t : ℕ) → IsSound k → FewEvents k → LeavesHeapUndone k (record { server = n; what = Step t })
