-- ENTRIES OF STEPS THAT ASK ARE LEGAL: such a step does no plain step, its entry notes what it asks for, and its thread waits (in the manner of DRust; the state is this project's).
use Rattle.std.specs.Prelude.{◌≡◌, None, Some}
use Rattle.law_entries_variables.specs.Below.journal.View.{EntryView}
use Rattle.law_entries_variables.specs.Below.server_model.declared.event.Event.{Event}
use Rattle.law_entries_variables.specs.Below.server_model.Servers.{Cluster}
use Rattle.law_entries_variables.specs.Below.server_model.Clusters.{apply}
use Rattle.law_entries_variables.specs.Below.coloured_heap.Heap.{Coloured}
use Rattle.law_entries_variables.specs.Below.coherent_memory.Colours.{StandsColoured}
use Rattle.law_entries_variables.specs.Below.coherent_memory.Coherent.{IsSound}
use Rattle.law_entries_variables.specs.Below.law_counts_sums.Kinds.{Kind, kind_of}
use Rattle.law_entries_variables.specs.Below.law_counts_sums.Laws.{Gives, FewEvents}
use Rattle.law_entries_variables.specs.deliveries.Entries.{LeadsOn}

-- each event of that kind whose entry has no `done` has a legal one, from a sound cluster in which few events were done
abbrev pub UndoneLegal : Kind → Type 0
UndoneLegal kind =
    (k : Cluster) (e : Event) → kind_of k e ≡ Some kind → IsSound k → FewEvents k → (s : Coloured) → StandsColoured k s → Gives (λ (d : Cluster × EntryView). d.1.done ≡ None → LeadsOn k.options d.1 s d.0) (apply k e)
