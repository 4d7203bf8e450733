-- A LEGAL JOURNAL GOES ON where an object comes or goes (this project's).
use Rattle.std.specs.Prelude.{◌≡◌, List, [], ◌∷◌, ◌++◌, Some}
use Rattle.law_runs_whole.specs.Below.journal.View.{EntryView}
use Rattle.law_runs_whole.specs.Below.server_model.declared.event.Event.{Event}
use Rattle.law_runs_whole.specs.Below.server_model.Servers.{Cluster}
use Rattle.law_runs_whole.specs.Below.server_model.Clusters.{apply}
use Rattle.law_runs_whole.specs.Below.coherent_memory.LeftBy.{LeavesColoured}
use Rattle.law_runs_whole.specs.Below.law_words_ends.Below.coherent_types.ClusterTypes.{IsCoherent}
use Rattle.law_runs_whole.specs.Below.law_counts_sums.Kinds.{Kind, kind_of}
use Rattle.law_runs_whole.specs.Below.law_counts_sums.Laws.{Gives, FewEvents}

-- where a legal journal has left the coloured heap of a coherent cluster in which few events were done, the journal with the entry of an event of that kind is legal too, and leaves that of
-- the cluster afterwards
abbrev pub CoherentJournalGoesOn : Kind → Type 0
CoherentJournalGoesOn kind =
    (k : Cluster) (e : Event) (es : List EntryView) → kind_of k e ≡ Some kind → IsCoherent k → FewEvents k → LeavesColoured k es → Gives (λ (d : Cluster × EntryView). LeavesColoured d.0 (es ++ d.1 ∷ [])) (apply k e)
