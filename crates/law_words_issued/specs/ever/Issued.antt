-- EACH EVENT ISSUES THE WORDS THAT STAND AFTER IT, or they had been issued (this project's rule).
use Rattle.law_words_issued.specs.Below.journal.View.{EntryView}
use Rattle.law_words_issued.specs.Below.server_model.declared.event.Event.{Event}
use Rattle.law_words_issued.specs.Below.server_model.Servers.{Cluster}
use Rattle.law_words_issued.specs.Below.server_model.Clusters.{apply}
use Rattle.law_words_issued.specs.Below.coherent_memory.Coherent.{Holds, are_issued}
use Rattle.law_words_issued.specs.Below.law_counts_sums.Laws.{Gives, FewEvents}
use Rattle.law_words_issued.specs.Below.coherent_types.ClusterTypes.{IsCoherent}
use Rattle.law_words_issued.specs.ever.Standing.{Settled}

-- from a coherent cluster in which few events were done, after each event that has a result, its messages handed over: each word that stands anywhere was issued, where the cluster has
-- types, objects have words, and what is waited for, asked for and taken stands
abbrev pub EachEventIssues : Type 0
EachEventIssues = (k : Cluster) (e : Event) → IsCoherent k → FewEvents k → Gives (λ (d : Cluster × EntryView). Settled d.0 → Holds d.0 are_issued) (apply k e)
