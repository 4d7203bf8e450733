-- THE DELIVERY OF A `drop` (this project's rule): the object goes, and what it owned is dropped in the same way.
use Rattle.std.specs.Prelude.{ℕ}
use Rattle.law_results_reads.specs.Below.fr_base.declared.name.ObjNo.{ObjNo}
use Rattle.law_results_reads.specs.Below.journal.View.{EntryView}
use Rattle.law_results_reads.specs.Below.server_msgs.declared.message.Message.TheVariants.{Drop}
use Rattle.law_results_reads.specs.Below.server_model.declared.event.Event.{Event}
use Rattle.law_results_reads.specs.Below.server_model.Servers.{Cluster}
use Rattle.law_results_reads.specs.Below.server_model.Clusters.{apply}
use Rattle.law_results_reads.specs.Below.coherent_types.ClusterTypes.{IsCoherent}
use Rattle.law_results_reads.specs.Below.law_counts_sums.Laws.{Gives, FewEvents}
use Rattle.law_words_values.specs.Below.law_words_paths.words.Unmoved.{Delivers, LeavesWords}

-- from a coherent cluster, with its messages handed over, it leaves each object the word that it had, and what else is kept of words
abbrev pub DropsLeave : Type 0
DropsLeave = (k : Cluster) (e : Event) (w : ℕ) (o : ObjNo) → Delivers k e (Drop w o) → IsCoherent k → FewEvents k → Gives (λ (d : Cluster × EntryView). LeavesWords k d.0) (apply k e)
