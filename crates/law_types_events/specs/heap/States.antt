-- THE TYPES OF THE ONE HEAP after each event (this project's rule).
use Rattle.std.specs.Prelude.{◌≡◌, ℕ, Some, None}
use Rattle.law_types_still.specs.Below.fr_base.declared.step.Fresh.{Fresh}
use Rattle.law_types_still.specs.Below.fr_store.Typed.{KeyTypes}
use Rattle.law_types_still.specs.Below.fr_plain.PlainState.{SameState, plain_state}
use Rattle.law_types_still.specs.Below.fr_sound.States.{Typing}
use Rattle.law_types_still.specs.Below.fr_code.Steps.{code_moves}
use Rattle.law_types_still.specs.Below.fr_code.Machine.{CodeWhole}
use Rattle.law_types_still.specs.Below.law_plain_values.acts.Keeps.{KeepsNames}
use Rattle.law_heap_writes.specs.Below.law_plain_threads.steps.Machines.{ReferencesKept}
use Rattle.law_types_still.specs.Below.fr_code.CodeTypes.{Table}
use Rattle.law_types_still.specs.Below.fr_code.CodeTable.{IsTable}
use Rattle.law_types_still.specs.Below.fr_code.TableStates.{CodeStateTypes}
use Rattle.law_types_still.specs.Below.journal.View.{EntryView}
use Rattle.law_types_still.specs.Below.server_model.declared.event.Event.{Event}
use Rattle.law_types_still.specs.Below.server_model.Servers.{Cluster}
use Rattle.law_types_still.specs.Below.server_model.Clusters.{apply}
use Rattle.law_types_still.specs.Below.coherent_memory.OneHeap.{one_heap}
use Rattle.law_types_still.specs.Below.coherent_types.ClusterTypes.{IsCoherent}
use Rattle.law_counts_limits.specs.Below.law_counts_sums.Laws.{Gives, FewEvents}
use Rattle.law_types_still.specs.heap.Counted.{CountsFollow}

-- the plain step of the entry's thread leaves mutable references the exact types that they had, as the act of its move takes them
pub record LeavesReferences (before : Cluster) (entry : EntryView) (had has : KeyTypes) : Type 0 where
  pub thread : ℕ
  pub is : entry.thread ≡ Some thread
  pub whole : CodeWhole
  pub shows : SameState (plain_state whole) (one_heap before)
  pub refs : ReferencesKept (code_moves before.code) whole thread had has

-- the one heap is typed by the table, which is one of the cluster's code, and so is what the one heap tells of what is counted
pub record HeapTyped (table : Table) (k : Cluster) : Type 0 where
  pub is_table : IsTable k.code table
  pub typing : Typing
  pub state : CodeStateTypes table typing (one_heap k)
  pub counts : CountsFollow table typing k

-- by that typing mutexes and threads whose names were given have the types that they had before, and mutable references their exact types where a plain step is done;
-- where none is, all types are as they were
pub record HeapKept (table : Table) (before : Cluster) (types : Typing) (d : Cluster × EntryView) : Type 0 where
  pub heap : HeapTyped table d.0
  pub names : KeepsNames (one_heap before) types.gives heap.typing.gives
  pub refs : (names : Fresh) → d.1.done ≡ Some names → LeavesReferences before d.1 types.exact heap.typing.exact
  pub still : d.1.done ≡ None → heap.typing ≡ types

-- each event of a coherent cluster, in which few were done, leaves such a one, by the same table
abbrev pub EventsKeepState : Type 0
EventsKeepState = (k : Cluster) (e : Event) (co : IsCoherent k) → FewEvents k → Gives (λ (d : Cluster × EntryView). HeapTyped co.types.table d.0) (apply k e)

-- by which names and mutable references keep their types
abbrev pub EventsKeepNames : Type 0
EventsKeepNames = (k : Cluster) (e : Event) (co : IsCoherent k) → FewEvents k → Gives (HeapKept co.types.table k co.types.typing) (apply k e)
