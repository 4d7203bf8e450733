-- ENTRIES OF DELIVERIES ARE LEGAL: those for which coherence is needed, types among it (this project's).
use Rattle.std.specs.Prelude.{◌≡◌, List, [], ◌∷◌, ◌++◌, Some}
use Rattle.law_entries_variables.specs.Below.journal.View.{EntryView}
use Rattle.law_entries_variables.specs.Below.server_model.declared.event.Event.{Event}
use Rattle.law_entries_variables.specs.Below.server_model.Servers.{Cluster}
use Rattle.law_entries_variables.specs.Below.server_model.Clusters.{apply}
use Rattle.law_entries_variables.specs.Below.coherent_memory.LeftBy.{LeavesColoured}
use Rattle.law_copies_kept.specs.Below.coherent_types.ClusterTypes.{IsCoherent}
use Rattle.law_entries_variables.specs.Below.law_counts_sums.Kinds.{Kind, kind_of}
use Rattle.law_entries_variables.specs.Below.law_counts_sums.Laws.{Gives, FewEvents}
use Rattle.law_entries_variables.specs.deliveries.Entries.{EntryLegal}

-- each event of that kind has a legal entry, from a coherent cluster in which few events were done
abbrev pub CoherentEntriesLegal : Kind → Type 0
CoherentEntriesLegal kind = (k : Cluster) (e : Event) → kind_of k e ≡ Some kind → IsCoherent k → FewEvents k → EntryLegal k e

-- where a legal journal has left the coloured heap of a cluster, the journal with the legal entry of an event is legal too, and leaves that of the cluster afterwards
abbrev pub LegalEntryContinues : Type 0
LegalEntryContinues = (k : Cluster) (e : Event) (es : List EntryView) → EntryLegal k e → LeavesColoured k es → Gives (λ (d : Cluster × EntryView). LeavesColoured d.0 (es ++ d.1 ∷ [])) (apply k e)
