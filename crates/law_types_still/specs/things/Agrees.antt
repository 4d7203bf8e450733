-- TYPES STAY, whole, where no plain step is done (this project's rule).
use Rattle.std.specs.Prelude.{◌≡◌, None}
use Rattle.law_counts_things.specs.Below.journal.View.{EntryView}
use Rattle.law_counts_things.specs.Below.server_model.declared.event.Event.{Event}
use Rattle.law_counts_things.specs.Below.server_model.Servers.{Cluster}
use Rattle.law_counts_things.specs.Below.server_model.Clusters.{apply}
use Rattle.law_counts_things.specs.Below.coherent_memory.Coherent.{IsSound}
use Rattle.law_counts_things.specs.Below.coherent_types.ClusterTypes.{Types, IsCoherent}
use Rattle.law_counts_things.specs.Below.law_counts_sums.Laws.{Gives, FewEvents}

-- each event of a coherent cluster, in which few were done, leads to one that has types, where its entry has no `done`
abbrev pub UndoneKeepsTypes : Type 0
UndoneKeepsTypes = (k : Cluster) (e : Event) → IsCoherent k → FewEvents k → Gives (λ (d : Cluster × EntryView). d.1.done ≡ None → Types d.0) (apply k e)

-- so that one is coherent where it is sound
abbrev pub UndoneKeepsCoherence : Type 0
UndoneKeepsCoherence = (k : Cluster) (e : Event) → IsCoherent k → FewEvents k → Gives (λ (d : Cluster × EntryView). d.1.done ≡ None → IsSound d.0 → IsCoherent d.0) (apply k e)
