-- CLUSTERS THAT ARE THE SAME BUT FOR THE ORDER IN WHICH MESSAGES WAIT (this project's rule): what is said of one holds of the other.
use Rattle.law_runs_rounds.specs.Below.law_runs_coherent.Below.server_model.Servers.{Cluster}
use Rattle.law_runs_rounds.specs.Below.law_runs_coherent.Below.coherent_types.ClusterTypes.{IsCoherent}
use Rattle.law_runs_rounds.specs.rounds.Order.{IsSameCluster}
use Rattle.law_runs_order.specs.things.SameThings.{HasSameThings}

-- they have the same things
abbrev pub ThingsInAnyOrder : Type 0
ThingsInAnyOrder = (k z : Cluster) → IsSameCluster k z → HasSameThings k z

-- so one is coherent where the other is
abbrev pub CoherentInAnyOrder : Type 0
CoherentInAnyOrder = (k z : Cluster) → IsSameCluster k z → IsCoherent z → IsCoherent k
