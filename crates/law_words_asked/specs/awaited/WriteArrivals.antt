-- AN OBJECT COMES TO A WRITE, and the words hold (this project's rules).
use Rattle.std.specs.Prelude.{◌≡◌, ℕ, Some, slice_get}
use Rattle.law_words_asked.specs.Below.fr_base.declared.instruction.Instr.{Instr}
use Rattle.law_words_asked.specs.Below.fr_base.declared.place.Lval.{Lval}
use Rattle.law_words_asked.specs.Below.heap_partition.declared.value.Cell.{Cell}
use Rattle.law_words_asked.specs.Below.journal.View.{EntryView}
use Rattle.law_words_asked.specs.Below.thread_state.View.{ThreadState}
use Rattle.law_words_asked.specs.Below.server_msgs.declared.message.Message.TheVariants.{Moved}
use Rattle.law_words_asked.specs.Below.server_model.declared.event.What.TheVariants.{Deliver}
use Rattle.law_words_asked.specs.Below.server_model.Servers.{Server, Cluster, server_at}
use Rattle.law_words_asked.specs.Below.server_model.Work.{thread_in}
use Rattle.law_words_asked.specs.Below.server_model.Clusters.{apply}
use Rattle.law_words_asked.specs.Below.coherent_types.ClusterTypes.{IsCoherent}
use Rattle.law_words_asked.specs.Below.law_counts_sums.Laws.{Gives, FewEvents}
use Rattle.law_words_asked.specs.Below.law_words_kept.prepared.Requests.{WordsRise}
use Rattle.law_words_asked.specs.writes.Writing.{WritesThrough}

-- the message brings an object to a thread that assigns or moves out through stars, however many of them it has passed
abbrev pub WriteArrivalsKeep : Type 0
WriteArrivalsKeep = (k : Cluster) (number i old t : ℕ) (s : Server) (c : Cell) (y : ThreadState) (j : Instr) (w : Lval) (d : ℕ) → IsCoherent k → FewEvents k → server_at k.servers number ≡ Some s → slice_get s.rest.inbox i ≡ Some (Moved old c t)
    → thread_in s.threads t ≡ Some y → slice_get k.code y.pc ≡ Some j → WritesThrough j w d → Gives (λ (x : Cluster × EntryView). WordsRise k x.0) (apply k (record { server = number; what = Deliver i }))
