-- EACH EVENT KEEPS THE WORDS (this project's rule), whatever it is.
use Rattle.law_words_borrows.specs.Below.journal.View.{EntryView}
use Rattle.law_words_borrows.specs.Below.server_model.declared.event.Event.{Event}
use Rattle.law_words_borrows.specs.Below.server_model.Servers.{Cluster}
use Rattle.law_words_borrows.specs.Below.server_model.Clusters.{apply}
use Rattle.law_words_borrows.specs.Below.coherent_types.ClusterTypes.{IsCoherent}
use Rattle.law_words_borrows.specs.Below.law_counts_sums.Laws.{Gives, FewEvents}
use Rattle.law_words_writes.specs.Below.law_words_kept.prepared.Requests.{WordsHold, WordsRise}

-- from a coherent cluster in which few events were done: after each event that has a result, its messages handed over, each object has a word, references know the words at
-- their holders, dirty references are alone, and first words that were left are no words of today
abbrev pub EventsKeepWords : Type 0
EventsKeepWords = (k : Cluster) (e : Event) → IsCoherent k → FewEvents k → Gives (λ (d : Cluster × EntryView). WordsHold d.0) (apply k e)

-- and words rise: each object's word is the one that it had, or wasn't issued before the event
abbrev pub WordsRiseAlways : Type 0
WordsRiseAlways = (k : Cluster) (e : Event) → IsCoherent k → FewEvents k → Gives (λ (d : Cluster × EntryView). WordsRise k d.0) (apply k e)
