-- NO STEP: an event that has no `done` leaves the plain state that the cluster stands for as it was (this project's rule).
use Rattle.law_words_paths.specs.Below.server_model.declared.event.Event.{Event}
use Rattle.law_words_paths.specs.Below.server_model.Servers.{Cluster}
use Rattle.law_words_paths.specs.Below.coherent_types.ClusterTypes.{IsCoherent}
use Rattle.law_heap_still.specs.Below.law_counts_sums.Laws.{FewEvents}
use Rattle.law_heap_still.specs.events.Laws.{LeavesHeapUndone}

-- each event of a coherent cluster, in which few were done
abbrev pub EachUndoneLeavesHeap : Type 0
EachUndoneLeavesHeap = (k : Cluster) (e : Event) → IsCoherent k → FewEvents k → LeavesHeapUndone k e
