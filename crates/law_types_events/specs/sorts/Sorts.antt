-- SORTS of values, and VIEWS, after each event (this project's rule): what of types the one heap doesn't tell.
use Rattle.std.specs.Prelude.{◌≡◌}
use Rattle.law_types_still.specs.Below.journal.View.{EntryView}
use Rattle.law_types_still.specs.Below.server_model.declared.event.Event.{Event}
use Rattle.law_types_still.specs.Below.server_model.Servers.{Cluster}
use Rattle.law_types_still.specs.Below.server_model.Clusters.{apply}
use Rattle.law_types_still.specs.Below.coherent_memory.Sight.{sight}
use Rattle.law_types_still.specs.Below.law_counts_sums.Laws.{Gives, FewEvents}
use Rattle.law_types_still.specs.Below.coherent_types.ClusterTypes.{IsCoherent, views_wrong}
use Rattle.law_types_events.specs.Below.law_types_still.heap.Counted.{sorts_wrong}

-- each event of a coherent cluster, in which few were done, leaves one in which each slot and temporary value of a thread that isn't over has the sort that the
-- same table gives at its instruction
abbrev pub EventsKeepSorts : Type 0
EventsKeepSorts = (k : Cluster) (e : Event) (co : IsCoherent k) → FewEvents k → Gives (λ (d : Cluster × EntryView). sorts_wrong co.types.table (sight d.0) ≡ 0) (apply k e)

-- and in which each view leads to an object to which the parent, which waits at its par, has a shared reference or a view in a slot
abbrev pub EventsKeepViews : Type 0
EventsKeepViews = (k : Cluster) (e : Event) (co : IsCoherent k) → FewEvents k → Gives (λ (d : Cluster × EntryView). views_wrong co.types.table (sight d.0) ≡ 0) (apply k e)
