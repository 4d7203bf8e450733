-- WHAT WAS ISSUED STAYS ISSUED where an object comes (this project's rule).
use Rattle.std.specs.Prelude.{◌≡◌, ℕ, true, nat_lt}
use Rattle.law_words_issued.specs.Below.global_addr.Words.{colour_of}
use Rattle.law_words_issued.specs.Below.heap_partition.declared.value.Cell.{Cell}
use Rattle.law_words_issued.specs.Below.server_msgs.declared.message.Message.TheVariants.{Moved}
use Rattle.law_words_issued.specs.Below.journal.View.{EntryView}
use Rattle.law_words_issued.specs.Below.server_model.declared.event.Event.{Event}
use Rattle.law_words_issued.specs.Below.server_model.Servers.{Cluster}
use Rattle.law_words_issued.specs.Below.server_model.Clusters.{apply}
use Rattle.law_words_issued.specs.Below.coherent_memory.Sight.{sight, issued}
use Rattle.law_words_issued.specs.Below.coherent_types.ClusterTypes.{IsCoherent}
use Rattle.law_words_issued.specs.Below.law_words_paths.paths.HeapStore.{HasPaths}
use Rattle.law_words_issued.specs.Below.law_words_paths.words.Unmoved.{Delivers}
use Rattle.law_words_issued.specs.Below.law_counts_sums.Laws.{Gives, FewEvents}
use Rattle.law_words_issued.specs.old.Old.{unissued, lent_words}

-- from a coherent cluster in which few events were done: after the delivery of an object, its messages handed over, each word below the limit that had been issued is issued,
-- where places have types then and the pointers from which threads have taken objects have words that had been issued
abbrev pub ArrivalsKeepWhatWasIssued : Type 0
ArrivalsKeepWhatWasIssued =
    (k : Cluster) (e : Event) (old : ℕ) (c : Cell) (t : ℕ) → Delivers k e (Moved old c t) → IsCoherent k → FewEvents k
    → Gives (λ (d : Cluster × EntryView). HasPaths d.0 → lent_words (unissued k) (sight d.0) ≡ 0 → (w : ℕ) → nat_lt (colour_of w) k.options.colours ≡ true → issued (sight k) w ≡ true → issued (sight d.0) w ≡ true) (apply k e)
