-- DELIVERIES IN WHICH AN OBJECT LEAVES OR GOES (this project's rule): the place that a thread follows leads where it led, over the same pointers.
use Rattle.law_words_values.specs.Below.fr_base.declared.place.Lval.{Lval}
use Rattle.law_words_values.specs.Below.journal.View.{EntryView}
use Rattle.law_words_values.specs.Below.server_msgs.declared.message.Message.{Message}
use Rattle.law_words_values.specs.Below.server_model.declared.event.Event.{Event}
use Rattle.law_words_values.specs.Below.server_model.Servers.{Cluster}
use Rattle.law_words_values.specs.Below.server_model.Clusters.{apply}
use Rattle.law_words_values.specs.Below.coherent_memory.Follow.{Standing}
use Rattle.law_words_values.specs.Below.coherent_memory.Coherent.{Sentence, Holds}
use Rattle.law_words_values.specs.Below.coherent_types.ClusterTypes.{IsCoherent}
use Rattle.law_words_values.specs.Below.law_words_paths.paths.HeapStore.{GoesOn}
use Rattle.law_counts_waiting.specs.Below.law_words_paths.words.Unmoved.{Delivers}
use Rattle.law_words_values.specs.Below.law_counts_sums.Laws.{Gives, FewEvents}
use Rattle.law_counts_waiting.specs.waits.Places.{Follows}
use Rattle.law_walks_others.specs.pointers.Pointers.{SamePointers}

-- from a coherent cluster in which few events were done, with the messages handed over: after the delivery of that message, of each thread
abbrev pub DeliveryLeavesPointers : Message → Type 0
DeliveryLeavesPointers m = (k : Cluster) (e : Event) → Delivers k e m → IsCoherent k → FewEvents k → (x : Standing) (w : Lval) → GoesOn k x → Follows k x w → Gives (λ (d : Cluster × EntryView). SamePointers k d.0 x.thread.number w) (apply k e)

-- and the sentence holds then
abbrev pub DeliveryKeeps : Message → Sentence → Type 0
DeliveryKeeps m sentence = (k : Cluster) (e : Event) → Delivers k e m → IsCoherent k → FewEvents k → Gives (λ (d : Cluster × EntryView). Holds d.0 sentence) (apply k e)
