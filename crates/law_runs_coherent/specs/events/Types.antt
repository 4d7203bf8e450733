-- TYPES AFTER EACH EVENT, whatever it is (this project's rule).
use Rattle.coherent_memory.specs.Below.journal.View.{EntryView}
use Rattle.coherent_memory.specs.Below.server_model.declared.event.Event.{Event}
use Rattle.coherent_memory.specs.Below.server_model.Servers.{Cluster}
use Rattle.coherent_memory.specs.Below.server_model.Clusters.{apply}
use Rattle.law_counts_things.specs.Below.coherent_types.ClusterTypes.{Types, IsCoherent}
use Rattle.law_counts_sums.specs.Laws.{Gives, FewEvents}
use Rattle.law_types_events.specs.Below.law_types_still.fits.Fits.{StandsOnce}

-- each event of a coherent cluster, in which few were done, leaves one in which each thing stands once
abbrev pub EventsStandOnce : Type 0
EventsStandOnce = (k : Cluster) (e : Event) → IsCoherent k → FewEvents k → Gives (λ (d : Cluster × EntryView). StandsOnce d.0) (apply k e)

-- each event leaves a cluster that has types, whether or not it is sound
abbrev pub EventsKeepTypes : Type 0
EventsKeepTypes = (k : Cluster) (e : Event) → IsCoherent k → FewEvents k → Gives (λ (d : Cluster × EntryView). Types d.0) (apply k e)
