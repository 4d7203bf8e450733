-- EACH EVENT KEEPS DIFFERENT OBJECTS APART (this project's rule), whatever it is: different live objects have different words.
use Rattle.law_walks_own.specs.Below.journal.View.{EntryView}
use Rattle.law_walks_own.specs.Below.server_model.declared.event.Event.{Event}
use Rattle.law_walks_own.specs.Below.server_model.Servers.{Cluster}
use Rattle.law_walks_own.specs.Below.server_model.Clusters.{apply}
use Rattle.law_walks_own.specs.Below.coherent_memory.Coherent.{Holds, different_words}
use Rattle.law_walks_own.specs.Below.coherent_types.ClusterTypes.{IsCoherent}
use Rattle.law_walks_own.specs.Below.law_counts_sums.Laws.{Gives, FewEvents}

-- from a coherent cluster in which few events were done, after each event that has a result, its messages handed over
abbrev pub ObjectsStayApart : Type 0
ObjectsStayApart = (k : Cluster) (e : Event) → IsCoherent k → FewEvents k → Gives (λ (d : Cluster × EntryView). Holds d.0 different_words) (apply k e)
