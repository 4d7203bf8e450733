-- EACH EVENT KEEPS COHERENCE (in the manner of DRust; the property is this project's).
use Rattle.coherent_memory.specs.Below.journal.View.{EntryView}
use Rattle.coherent_memory.specs.Below.server_model.declared.event.Event.{Event}
use Rattle.coherent_memory.specs.Below.server_model.Servers.{Cluster}
use Rattle.coherent_memory.specs.Below.server_model.Clusters.{apply}
use Rattle.law_counts_sums.specs.Laws.{FewEvents, Gives}
use Rattle.law_counts_things.specs.Below.coherent_types.ClusterTypes.{IsCoherent}

-- each event of a coherent cluster, in which few were done, leads to a coherent one where it has a result, its messages handed over
abbrev pub EventsKeepCoherence : Type 0
EventsKeepCoherence = (k : Cluster) (e : Event) → IsCoherent k → FewEvents k → Gives (λ (d : Cluster × EntryView). IsCoherent d.0) (apply k e)
