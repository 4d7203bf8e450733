-- Laws of clusters with the same things.
use Rattle.law_runs_rounds.specs.Below.law_runs_coherent.Below.fr_plain.PlainState.{SameState}
use Rattle.law_runs_rounds.specs.Below.law_runs_coherent.Below.server_model.Servers.{Cluster}
use Rattle.law_runs_rounds.specs.Below.law_runs_coherent.Below.coherent_memory.Coherent.{IsSound}
use Rattle.law_runs_rounds.specs.Below.law_runs_coherent.Below.coherent_memory.OneHeap.{one_heap}
use Rattle.law_runs_rounds.specs.Below.law_runs_coherent.Below.coherent_types.ClusterTypes.{IsCoherent}
use Rattle.law_runs_order.specs.things.SameThings.{HasSameThings}

-- they stand for the same one heap
abbrev pub OneHeapWithSameThings : Type 0
OneHeapWithSameThings = (k z : Cluster) → HasSameThings k z → IsSound z → SameState (one_heap k) (one_heap z)

-- and one is coherent where the other is
abbrev pub CoherentWithSameThings : Type 0
CoherentWithSameThings = (k z : Cluster) → HasSameThings k z → IsCoherent z → IsCoherent k
