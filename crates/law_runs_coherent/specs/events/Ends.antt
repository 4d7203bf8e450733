-- THE ENDS OF THREADS by the types that names have after an event (this project's rule).
use Rattle.std.specs.Prelude.{◌≡◌}
use Rattle.coherent_memory.specs.Below.fr_base.declared.name.ObjNo.{ObjNo}
use Rattle.coherent_memory.specs.Below.fr_typing.Kinds.{Owned as OwnedType}
use Rattle.law_counts_things.specs.Below.fr_sound.Seen.{Gives as NamesGive}
use Rattle.law_types_events.specs.Below.law_plain_values.acts.Keeps.{KeepsNames}
use Rattle.coherent_memory.specs.Below.journal.View.{EntryView}
use Rattle.coherent_memory.specs.Below.server_model.declared.event.Event.{Event}
use Rattle.coherent_memory.specs.Below.server_model.Servers.{Cluster}
use Rattle.coherent_memory.specs.Below.server_model.Clusters.{apply}
use Rattle.coherent_memory.specs.Sight.{sight}
use Rattle.coherent_memory.specs.OneHeap.{one_heap}
use Rattle.law_counts_things.specs.Below.coherent_types.Names.{names_of}
use Rattle.law_counts_things.specs.Below.coherent_types.ClusterTypes.{IsCoherent}
use Rattle.law_types_events.specs.Below.law_types_still.heap.Counted.{over_ends_wrong}
use Rattle.law_counts_sums.specs.Laws.{Gives, FewEvents}

-- each event of a coherent cluster, in which few were done, leaves one in which the code of each thread that is over ends with the type that its task has: by the same
-- table, and by whatever types of mutexes and results by which those whose names were given before have the types that they had; whatever the types of objects
abbrev pub EndsStay : Type 0
EndsStay = (k : Cluster) (e : Event) (co : IsCoherent k) → FewEvents k
    → Gives (λ (d : Cluster × EntryView). (after : NamesGive) → KeepsNames (one_heap k) co.types.typing.gives after → (object : ObjNo → OwnedType) → over_ends_wrong co.types.table (names_of object after) (sight d.0) ≡ 0) (apply k e)
