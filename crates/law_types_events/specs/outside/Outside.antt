-- WHAT IS OUTSIDE THE ONE HEAP after a plain step agrees with the types of its names, and so does all that stands anywhere (this project's rule).
use Rattle.std.specs.Prelude.{◌≡◌, Some}
use Rattle.law_types_still.specs.Below.fr_base.declared.step.Fresh.{Fresh}
use Rattle.law_types_events.specs.Below.fr_sound.Seen.{Gives as NamesGive}
use Rattle.law_types_events.specs.Below.fr_sound.States.{Typing}
use Rattle.law_types_still.specs.Below.fr_code.CodeTypes.{Table}
use Rattle.law_types_still.specs.Below.law_plain_values.acts.Keeps.{KeepsNames}
use Rattle.law_types_still.specs.Below.journal.View.{EntryView}
use Rattle.law_types_still.specs.Below.server_model.declared.event.Event.{Event}
use Rattle.law_types_still.specs.Below.server_model.Servers.{Cluster}
use Rattle.law_types_still.specs.Below.server_model.Clusters.{apply}
use Rattle.law_types_still.specs.Below.coherent_memory.Sight.{sight}
use Rattle.law_types_still.specs.Below.coherent_memory.OneHeap.{one_heap}
use Rattle.law_types_events.specs.Below.coherent_types.Names.{names_of}
use Rattle.law_types_events.specs.Below.coherent_types.ClusterTypes.{IsCoherent}
use Rattle.law_types_still.specs.Below.law_counts_sums.Laws.{Gives, FewEvents}
use Rattle.law_types_events.specs.heap.States.{HeapKept}
use Rattle.law_types_still.specs.fits.Fits.{StandsOnce, HeapFits, outside_misfits, WholeAgrees}

-- each event with a plain step of a coherent cluster, in which few were done, leaves what is outside the one heap in agreement with the types of its names, where each thing stands
-- once then: by the types of objects from before, and by whatever types of mutexes and results by which those whose names were given have the types that they had
abbrev pub StepsFitOutside : Type 0
StepsFitOutside = (k : Cluster) (e : Event) (co : IsCoherent k) → FewEvents k
    → Gives (λ (d : Cluster × EntryView). (names : Fresh) → d.1.done ≡ Some names → StandsOnce d.0 → (after : NamesGive) → KeepsNames (one_heap k) co.types.typing.gives after → outside_misfits (names_of co.types.object after) (sight d.0) ≡ 0) (apply k e)

-- by the typing of the one heap afterwards all that stands anywhere agrees, for types of objects that are those of the one heap inside it
pub record StepAgrees (table : Table) (before : Cluster) (types : Typing) (d : Cluster × EntryView) : Type 0 where
  pub kept : HeapKept table before types d
  pub fits : HeapFits table kept.heap.typing d.0
  pub whole : WholeAgrees kept.heap.typing d.0 fits.counts.types

-- so it is after each event with a plain step of a coherent cluster, in which few were done, that leaves one in which each thing stands once
abbrev pub StepsAgree : Type 0
StepsAgree = (k : Cluster) (e : Event) (co : IsCoherent k) → FewEvents k → Gives (λ (d : Cluster × EntryView). (names : Fresh) → d.1.done ≡ Some names → StandsOnce d.0 → StepAgrees co.types.table k co.types.typing d) (apply k e)
