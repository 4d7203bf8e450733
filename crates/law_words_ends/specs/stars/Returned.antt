-- A STEP WITH WHICH A MUTABLE REFERENCE ENDS keeps the words (this project's rules), wherever the pointer stands that it was made from.
use Rattle.std.specs.Prelude.{◌≡◌, ℕ, Some, slice_get}
use Rattle.law_words_ends.specs.Below.fr_base.declared.instruction.Instr.{Instr}
use Rattle.law_words_ends.specs.Below.journal.View.{EntryView}
use Rattle.law_words_ends.specs.Below.mut_borrow.declared.mutable.MutRef.{MutRef}
use Rattle.law_words_ends.specs.Below.thread_state.View.{ThreadState}
use Rattle.law_words_ends.specs.Below.server_model.declared.event.What.TheVariants.{Step}
use Rattle.law_words_ends.specs.Below.server_model.Servers.{Server, Cluster, server_at}
use Rattle.law_words_ends.specs.Below.server_model.Work.{thread_in}
use Rattle.law_words_ends.specs.Below.server_model.Clusters.{apply}
use Rattle.law_words_ends.specs.Below.coherent_types.ClusterTypes.{IsCoherent}
use Rattle.law_words_ends.specs.Below.law_counts_sums.Laws.{Gives, FewEvents}
use Rattle.law_words_writes.specs.Below.law_words_kept.prepared.Requests.{WordsRise}
use Rattle.law_words_ends.specs.variables.Ends.{EndsReference}

-- the step of a thread that ends the reference, whether it does its plain step or asks: the words hold once its messages are handed over
abbrev pub EndsKeepWords : Type 0
EndsKeepWords = (k : Cluster) (number t : ℕ) (s : Server) (y : ThreadState) (i : Instr) (r : MutRef) → IsCoherent k → FewEvents k → server_at k.servers number ≡ Some s → thread_in s.threads t ≡ Some y → slice_get k.code y.pc ≡ Some i → EndsReference y r i
    → Gives (λ (d : Cluster × EntryView). WordsRise k d.0) (apply k (record { server = number; what = Step t }))
