-- HOLDERS OF MUTABLE REFERENCES after each event (this project's rule): what of types the one heap doesn't tell.
use Rattle.std.specs.Prelude.{◌≡◌}
use Rattle.law_types_events.specs.Below.journal.View.{EntryView}
use Rattle.law_types_events.specs.Below.server_model.declared.event.Event.{Event}
use Rattle.law_types_events.specs.Below.server_model.Servers.{Cluster}
use Rattle.law_types_events.specs.Below.server_model.Clusters.{apply}
use Rattle.law_types_events.specs.Below.coherent_memory.Sight.{sight}
use Rattle.law_types_events.specs.Below.coherent_types.ClusterTypes.{IsCoherent}
use Rattle.law_types_events.specs.Below.law_counts_sums.Laws.{Gives, FewEvents}
use Rattle.law_types_events.specs.Below.law_types_still.heap.Counted.{holders_off}
use Rattle.law_types_events.specs.heap.States.{HeapKept}

-- each event of a coherent cluster, in which few were done, leaves one in which each mutable reference to an object has as its holder the place of its exact type with one
-- star less, by whatever typing of the one heap in which mutable references have the exact types that they had, from where the act takes them
abbrev pub EventsKeepHolders : Type 0
EventsKeepHolders = (k : Cluster) (e : Event) (co : IsCoherent k) → FewEvents k
    → Gives (λ (d : Cluster × EntryView). (h : HeapKept co.types.table k co.types.typing d) → holders_off h.heap.typing.exact (sight d.0) ≡ 0) (apply k e)
