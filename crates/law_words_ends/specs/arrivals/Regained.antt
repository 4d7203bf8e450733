-- AN OBJECT COMES TO THE END OF A MUTABLE REFERENCE, and to whatever waits for it, and the words hold (this project's rules).
use Rattle.std.specs.Prelude.{◌≡◌, ℕ, Some, slice_get}
use Rattle.law_words_borrows.specs.Below.fr_base.declared.instruction.Instr.{Instr}
use Rattle.law_words_borrows.specs.Below.heap_partition.declared.value.Cell.{Cell}
use Rattle.law_words_borrows.specs.Below.journal.View.{EntryView}
use Rattle.law_words_borrows.specs.Below.mut_borrow.declared.mutable.MutRef.{MutRef}
use Rattle.law_words_borrows.specs.Below.thread_state.View.{ThreadState}
use Rattle.law_words_borrows.specs.Below.server_msgs.declared.message.Message.TheVariants.{Moved}
use Rattle.law_words_borrows.specs.Below.server_model.declared.event.Event.{Event}
use Rattle.law_words_borrows.specs.Below.server_model.declared.event.What.TheVariants.{Deliver}
use Rattle.law_words_borrows.specs.Below.server_model.Servers.{Server, Cluster, server_at}
use Rattle.law_words_borrows.specs.Below.server_model.Work.{thread_in}
use Rattle.law_words_borrows.specs.Below.server_model.Clusters.{apply}
use Rattle.law_words_borrows.specs.Below.coherent_types.ClusterTypes.{IsCoherent}
use Rattle.law_words_borrows.specs.Below.law_counts_sums.Laws.{Gives, FewEvents}
use Rattle.law_words_writes.specs.Below.law_words_paths.words.Unmoved.{Delivers}
use Rattle.law_words_writes.specs.Below.law_words_kept.prepared.Requests.{WordsRise}
use Rattle.law_words_ends.specs.variables.Ends.{EndsReference}

-- the message brings an object to a thread at an instruction that ends the reference, with its slot, from the hand, or where it is assigned over: its own, or one to which
-- the place of its holder leads
abbrev pub EndsRegain : Type 0
EndsRegain = (k : Cluster) (number i old t : ℕ) (s : Server) (c : Cell) (y : ThreadState) (j : Instr) (r : MutRef) → IsCoherent k → FewEvents k → server_at k.servers number ≡ Some s → slice_get s.rest.inbox i ≡ Some (Moved old c t)
    → thread_in s.threads t ≡ Some y → slice_get k.code y.pc ≡ Some j → EndsReference y r j → Gives (λ (x : Cluster × EntryView). WordsRise k x.0) (apply k (record { server = number; what = Deliver i }))

-- to whatever instruction a message brings an object
abbrev pub ArrivalsKeep : Type 0
ArrivalsKeep = (k : Cluster) (e : Event) (old : ℕ) (c : Cell) (t : ℕ) → Delivers k e (Moved old c t) → IsCoherent k → FewEvents k → Gives (λ (x : Cluster × EntryView). WordsRise k x.0) (apply k e)
