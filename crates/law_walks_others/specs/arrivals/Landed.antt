-- OTHER THREADS WHERE AN OBJECT COMES (this project's rule): its pointer gets another word, and that pointer is on the way of no other thread.
use Rattle.std.specs.Prelude.{◌≡◌, ℕ, ⊤}
use Rattle.law_counts_waiting.specs.Below.heap_partition.declared.value.Cell.{Cell}
use Rattle.law_counts_waiting.specs.Below.journal.View.{EntryView}
use Rattle.law_counts_waiting.specs.Below.server_msgs.declared.message.Message.TheVariants.{Moved}
use Rattle.law_counts_waiting.specs.Below.server_model.declared.event.Event.{Event}
use Rattle.law_counts_waiting.specs.Below.server_model.Servers.{Cluster}
use Rattle.law_counts_waiting.specs.Below.server_model.Clusters.{apply}
use Rattle.law_counts_waiting.specs.Below.coherent_memory.Names.{Among}
use Rattle.law_counts_waiting.specs.Below.coherent_memory.Follow.{Standing}
use Rattle.law_counts_waiting.specs.Below.coherent_memory.Sight.{Sight, sight}
use Rattle.law_counts_waiting.specs.Below.coherent_memory.Coherent.{Sentence, Holds}
use Rattle.law_counts_waiting.specs.Below.coherent_types.ClusterTypes.{IsCoherent}
use Rattle.law_counts_waiting.specs.Below.law_words_paths.words.Unmoved.{Delivers}
use Rattle.law_counts_waiting.specs.Below.law_counts_sums.Kinds.{Kind, moved}
use Rattle.law_counts_waiting.specs.Below.law_counts_sums.Laws.{Gives, FewEvents}
use Rattle.law_counts_waiting.specs.Below.law_words_kept.stays.Laws.{IsOfKind}
use Rattle.law_walks_others.specs.still.Deliveries.{BringsNoObject}

-- from a coherent cluster in which few events were done, with the messages handed over: after the delivery of an object to a thread, no other thread has something wrong, of
-- what is told by the pointers on its way
abbrev pub OthersWhereItComesKeep : (Sight → Standing → ℕ) → Type 0
OthersWhereItComesKeep wrong = (k : Cluster) (e : Event) (old : ℕ) (c : Cell) (t : ℕ) → Delivers k e (Moved old c t) → IsCoherent k → FewEvents k
    → Gives (λ (d : Cluster × EntryView). (x : Standing) → Among x (sight d.0).ground.threads → (x.thread.number ≡ t → ⊥) → wrong (sight d.0) x ≡ 0) (apply k e)

-- EVENTS THAT ARE NO STEP: a copy goes, a thread leaves, each delivery of a message
abbrev pub IsNoStep : Kind → Type 0
IsNoStep moved = ⊤
IsNoStep kind = BringsNoObject kind

-- such an event from a coherent cluster in which few events were done, with its messages handed over, keeps the sentence
abbrev pub EachUnsteppedEventKeeps : Sentence → Type 0
EachUnsteppedEventKeeps sentence =
    (kind : Kind) → IsNoStep kind → (k : Cluster) (e : Event) → IsOfKind kind k e → IsCoherent k → FewEvents k
    → Gives (λ (d : Cluster × EntryView). Holds d.0 sentence) (apply k e)
