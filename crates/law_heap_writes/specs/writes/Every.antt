-- EACH EVENT is exactly one plain step on the cluster's one heap, or leaves that as it was (this project's rule).
use Rattle.std.specs.Prelude.{◌≡◌, ℕ, Bool, true, Some, None}
use Rattle.law_heap_writes.specs.Below.fr_base.declared.step.Fresh.{Fresh}
use Rattle.law_heap_writes.specs.Below.fr_base.declared.instruction.Instr.{Instr}
use Rattle.law_heap_writes.specs.Below.fr_plain.PlainState.{SameState, plain_state}
use Rattle.law_heap_writes.specs.Below.fr_code.Machine.{CodeWhole}
use Rattle.law_heap_writes.specs.Below.journal.View.{EntryView}
use Rattle.law_heap_writes.specs.Below.server_model.declared.event.Event.{Event}
use Rattle.law_heap_writes.specs.Below.server_model.Servers.{Cluster}
use Rattle.law_heap_writes.specs.Below.server_model.Clusters.{apply}
use Rattle.law_heap_writes.specs.Below.coherent_memory.OneHeap.{one_heap}
use Rattle.law_heap_writes.specs.Below.coherent_types.ClusterTypes.{IsCoherent}
use Rattle.law_heap_writes.specs.Below.law_counts_sums.Laws.{Gives, FewEvents}
use Rattle.law_heap_writes.specs.Below.law_heap_steps.turns.Turns.{StepsTo}

-- whatever it is
abbrev pub each_instruction : Instr → Bool
each_instruction i = true

-- an event's entry that has a `done` has a thread, and the plain step of that thread with these names leads from the one heap to the one heap afterwards, with the
-- entry's labels; after an event without one that is as it was
pub record IsStepOrStill (k : Cluster) (d : Cluster × EntryView) : Type 0 where
  pub steps : (names : Fresh) → d.1.done ≡ Some names → (t : ℕ) × (d.1.thread ≡ Some t) × ((c : CodeWhole) → SameState (plain_state c) (one_heap k) → StepsTo k.code c t names (one_heap d.0) d.1.labels)
  pub stays : d.1.done ≡ None → SameState (one_heap d.0) (one_heap k)

-- from a coherent cluster in which few events were done, each event that has a result is such, its messages handed over
abbrev pub EachIsStepOrStill : Type 0
EachIsStepOrStill = (k : Cluster) (e : Event) → IsCoherent k → FewEvents k → Gives (IsStepOrStill k) (apply k e)
