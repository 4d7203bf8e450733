-- What each event of a sound cluster keeps, sentence by sentence.
use Rattle.law_counts_sums.specs.Below.journal.View.{EntryView}
use Rattle.law_counts_sums.specs.Below.server_model.declared.event.Event.{Event}
use Rattle.law_counts_sums.specs.Below.server_model.Servers.{Cluster}
use Rattle.law_counts_sums.specs.Below.server_model.Clusters.{apply}
use Rattle.law_counts_sums.specs.Below.coherent_memory.Coherent.{Sentence, Holds, IsSound}
use Rattle.law_counts_sums.specs.Laws.{Gives, FewEvents}
use Rattle.law_words_paths.specs.Below.coherent_types.ClusterTypes.{IsCoherent}

-- an event of whatever kind from a sound cluster in which few events were done, with its messages handed over, leaves no thing that breaks the sentence
abbrev pub EachEventKeeps : Sentence → Type 0
EachEventKeeps n = (k : Cluster) (e : Event) → IsSound k → FewEvents k → Gives (λ (d : Cluster × EntryView). Holds d.0 n) (apply k e)

-- the same from a coherent cluster, types included
abbrev pub EachCoherentEventKeeps : Sentence → Type 0
EachCoherentEventKeeps n = (k : Cluster) (e : Event) → IsCoherent k → FewEvents k → Gives (λ (d : Cluster × EntryView). Holds d.0 n) (apply k e)
