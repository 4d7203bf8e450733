-- THAT THE DELIVERY OF AN OBJECT THAT COMES HAS A RESULT, whatever its thread has passed (this project's rule).
use Rattle.std.specs.Prelude.{◌≡◌, ℕ, true, Some, slice_get}
use Rattle.law_results_reads.specs.Below.heap_partition.declared.value.Cell.{Cell}
use Rattle.law_results_reads.specs.Below.server_msgs.declared.message.Message.TheVariants.{Moved}
use Rattle.law_results_reads.specs.Below.server_model.declared.event.What.TheVariants.{Deliver}
use Rattle.law_results_reads.specs.Below.server_model.Servers.{Server, Cluster, server_at}
use Rattle.law_results_reads.specs.Below.server_model.Events.{enabled}
use Rattle.law_results_reads.specs.Below.law_counts_sums.Laws.{FewEvents, HasResult}
use Rattle.law_results_reads.specs.Below.coherent_types.ClusterTypes.{IsCoherent}

-- in a coherent cluster where few events were done
abbrev pub MovedHaveResults : Type 0
MovedHaveResults =
    (k : Cluster) (n i : ℕ) (s : Server) (w : ℕ) (c : Cell) (t : ℕ) → IsCoherent k → FewEvents k → server_at k.servers n ≡ Some s → enabled k.options s (Deliver i) ≡ true → slice_get s.rest.inbox i ≡ Some (Moved w c t) → HasResult k n (Deliver i)
