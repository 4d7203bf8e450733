-- POINTERS FROM WHICH AN OBJECT WAS TAKEN (this project's rule): their words had been issued, after an event too.
use Rattle.std.specs.Prelude.{◌≡◌, ℕ}
use Rattle.law_words_issued.specs.Below.heap_partition.declared.value.Cell.{Cell}
use Rattle.law_words_issued.specs.Below.journal.View.{EntryView}
use Rattle.law_words_issued.specs.Below.server_msgs.declared.message.Message.TheVariants.{Moved}
use Rattle.law_words_issued.specs.Below.server_model.declared.event.Event.{Event}
use Rattle.law_words_issued.specs.Below.server_model.declared.event.What.TheVariants.{Step}
use Rattle.law_words_issued.specs.Below.server_model.Servers.{Cluster}
use Rattle.law_words_issued.specs.Below.server_model.Clusters.{apply}
use Rattle.law_words_issued.specs.Below.coherent_memory.Sight.{sight}
use Rattle.law_words_issued.specs.Below.law_counts_sums.Laws.{Gives, FewEvents}
use Rattle.law_words_issued.specs.Below.coherent_types.ClusterTypes.{IsCoherent}
use Rattle.law_words_issued.specs.Below.law_words_paths.words.Unmoved.{Delivers}
use Rattle.law_words_issued.specs.old.Old.{unissued, lent_words}

-- after the step of a thread from a coherent cluster in which few events were done, its messages handed over
abbrev pub StepsLeaveLent : Type 0
StepsLeaveLent = (k : Cluster) (e : Event) (t : ℕ) → e.what ≡ Step t → IsCoherent k → FewEvents k → Gives (λ (d : Cluster × EntryView). lent_words (unissued k) (sight d.0) ≡ 0) (apply k e)

-- and where an object comes
abbrev pub LandingsLeaveLent : Type 0
LandingsLeaveLent = (k : Cluster) (e : Event) (old : ℕ) (c : Cell) (t : ℕ) → Delivers k e (Moved old c t) → IsCoherent k → FewEvents k → Gives (λ (d : Cluster × EntryView). lent_words (unissued k) (sight d.0) ≡ 0) (apply k e)
