-- EACH EVENT KEEPS COPIES (DRust's read caches; this project's rules), whatever it is.
use Rattle.coherent_memory.specs.Below.journal.View.{EntryView}
use Rattle.coherent_memory.specs.Below.server_model.declared.event.Event.{Event}
use Rattle.coherent_memory.specs.Below.server_model.Servers.{Cluster}
use Rattle.coherent_memory.specs.Below.server_model.Clusters.{apply}
use Rattle.coherent_memory.specs.Coherent.{Copies}
use Rattle.law_counts_things.specs.Below.coherent_types.ClusterTypes.{IsCoherent}
use Rattle.law_counts_sums.specs.Laws.{Gives, FewEvents}

-- from a coherent cluster in which few events were done, with the messages handed over: copies are present cells, and each that is asked for is one of a live object that isn't changed through a
-- reference
abbrev pub EventsKeepCopies : Type 0
EventsKeepCopies = (k : Cluster) (e : Event) → IsCoherent k → FewEvents k → Gives (λ (d : Cluster × EntryView). Copies d.0) (apply k e)
