-- AN OBJECT LEAVES its address for a thread elsewhere (this project's rule): the words stay, as the word that goes along is the object's.
use Rattle.std.specs.Prelude.{ℕ}
use Rattle.law_words_kept.specs.Below.fr_base.declared.name.ObjNo.{ObjNo}
use Rattle.law_words_kept.specs.Below.journal.View.{EntryView}
use Rattle.law_words_kept.specs.Below.server_msgs.declared.message.Message.TheVariants.{Move}
use Rattle.law_words_kept.specs.Below.server_model.declared.event.Event.{Event}
use Rattle.law_words_kept.specs.Below.server_model.Servers.{Cluster}
use Rattle.law_words_kept.specs.Below.server_model.Clusters.{apply}
use Rattle.law_words_kept.specs.Below.coherent_memory.Coherent.{IsSound}
use Rattle.law_words_kept.specs.Below.law_counts_sums.Laws.{Gives, FewEvents}
use Rattle.law_words_kept.specs.Below.law_words_paths.words.Unmoved.{Delivers, LeavesWords}

-- the delivery of a `move` from a sound cluster, with its messages handed over, leaves each object the word that it had
abbrev pub MovesLeave : Type 0
MovesLeave = (k : Cluster) (e : Event) (w : ℕ) (o : ObjNo) (a t : ℕ) → Delivers k e (Move w o a t) → IsSound k → FewEvents k → Gives (λ (d : Cluster × EntryView). LeavesWords k d.0) (apply k e)
