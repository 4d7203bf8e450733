-- AN OBJECT COMES TO THE END OF ITS REFERENCE, and the words hold (this project's rules).
use Rattle.std.specs.Prelude.{◌≡◌, ◌⊎◌, ℕ, Some, slice_get}
use Rattle.law_words_asked.specs.Below.fr_base.declared.instruction.Instr.{Instr}
use Rattle.law_words_asked.specs.Below.heap_partition.declared.value.Cell.{Cell}
use Rattle.law_words_asked.specs.Below.journal.View.{EntryView}
use Rattle.law_words_asked.specs.Below.mut_borrow.declared.mutable.MutRef.{MutRef}
use Rattle.law_words_asked.specs.Below.thread_state.View.{ThreadState}
use Rattle.law_words_asked.specs.Below.thread_state.declared.value.Value.TheVariants as value
use Rattle.law_words_asked.specs.Below.server_msgs.declared.message.Message.TheVariants.{Moved}
use Rattle.law_words_asked.specs.Below.server_model.declared.event.What.TheVariants.{Deliver}
use Rattle.law_words_asked.specs.Below.server_model.Servers.{Server, Cluster, server_at}
use Rattle.law_words_asked.specs.Below.server_model.Work.{thread_in}
use Rattle.law_words_asked.specs.Below.server_model.Clusters.{apply}
use Rattle.law_words_asked.specs.Below.coherent_types.ClusterTypes.{IsCoherent}
use Rattle.law_words_asked.specs.Below.law_words_paths.paths.Pointing.{EndsSlot}
use Rattle.law_words_asked.specs.Below.law_counts_sums.Laws.{Gives, FewEvents}
use Rattle.law_words_asked.specs.Below.law_words_kept.prepared.Requests.{WordsRise}

-- the message brings the object of a mutable reference to its thread, at an instruction that ends that in its slot: it has the message's word, or was made from the pointer in
-- a variable, for which nothing is waited for
abbrev pub EndArrivalsKeep : Type 0
EndArrivalsKeep = (k : Cluster) (number i old t : ℕ) (s : Server) (c : Cell) (y : ThreadState) (j : Instr) (m : ℕ) (r : MutRef) → IsCoherent k → FewEvents k → server_at k.servers number ≡ Some s → slice_get s.rest.inbox i ≡ Some (Moved old c t)
    → thread_in s.threads t ≡ Some y → slice_get k.code y.pc ≡ Some j → EndsSlot y j m → slice_get y.slots m ≡ Some (value.Mut r) → (r.word ≡ old) ⊎ (r.holder.depth ≡ 0) → Gives (λ (x : Cluster × EntryView). WordsRise k x.0) (apply k (record { server = number; what = Deliver i }))
