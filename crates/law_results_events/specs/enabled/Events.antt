-- THAT EACH ENABLED EVENT HAS A RESULT, of whatever kind it is (this project's rule).
use Rattle.std.specs.Prelude.{◌≡◌, ℕ, true, Some}
use Rattle.law_results_events.specs.Below.server_model.declared.event.What.{What}
use Rattle.law_results_events.specs.Below.server_model.Servers.{Server, Cluster, server_at}
use Rattle.law_results_events.specs.Below.server_model.Events.{enabled}
use Rattle.law_results_events.specs.Below.law_counts_sums.Laws.{FewEvents, HasResult}
use Rattle.law_results_events.specs.Below.coherent_types.ClusterTypes.{IsCoherent}

-- in a coherent cluster where few events were done
abbrev pub EventsHaveResults : Type 0
EventsHaveResults = (k : Cluster) (n : ℕ) (w : What) (s : Server) → IsCoherent k → FewEvents k → server_at k.servers n ≡ Some s → enabled k.options s w ≡ true → HasResult k n w
