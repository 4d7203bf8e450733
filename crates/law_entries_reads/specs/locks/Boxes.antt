-- A BOX GIVES ITS OBJECT THE NEXT WORD OF ITS SERVER: so the act that is noted for it names the object's word (this project's rules).
use Rattle.std.specs.Prelude.{◌≡◌, ℕ, false, Some, slice_get}
use Rattle.law_entries_reads.specs.Below.law_words_borrows.Below.fr_base.declared.instruction.Operand.{Operand}
use Rattle.law_entries_reads.specs.Below.law_words_borrows.Below.fr_base.declared.instruction.Instr.TheVariants as instr
use Rattle.law_entries_reads.specs.Below.law_words_borrows.Below.journal.View.{EntryView}
use Rattle.law_entries_reads.specs.Below.law_entries_variables.Below.owner_box.Partition.{new_word}
use Rattle.law_entries_reads.specs.Below.law_words_borrows.Below.thread_state.View.{ThreadState}
use Rattle.law_entries_reads.specs.Below.law_words_borrows.Below.server_model.declared.event.What.TheVariants.{Step}
use Rattle.law_entries_reads.specs.Below.law_words_borrows.Below.server_model.Servers.{Server, Cluster, server_at}
use Rattle.law_entries_reads.specs.Below.law_words_borrows.Below.server_model.Work.{thread_in}
use Rattle.law_entries_reads.specs.Below.law_words_borrows.Below.server_model.Clusters.{apply}
use Rattle.law_entries_reads.specs.Below.law_words_borrows.Below.coherent_memory.Sight.{sight, issued}
use Rattle.law_entries_reads.specs.Below.law_words_borrows.Below.coherent_memory.Words.{HasWords}
use Rattle.law_entries_reads.specs.Below.law_words_borrows.Below.coherent_types.ClusterTypes.{IsCoherent}
use Rattle.law_entries_reads.specs.Below.law_words_borrows.Below.law_counts_sums.Laws.{Gives, FewEvents}
use Rattle.law_entries_reads.specs.Below.law_words_borrows.Below.law_words_paths.words.WordsAfter.{KeepsWords}

-- the object that a thread makes next has the next word of its server's partition, which wasn't issued, each other one the word that it had, and what else is kept of words is kept
pub record HasNextWord (k z : Cluster) (s : Server) (y : ThreadState) (before : HasWords (sight k)) : Type 0 where
  pub new : issued (sight k) (new_word s.rest.partition) ≡ false
  pub keeps : KeepsWords k z (record { thread = y.number; count = y.made }) (new_word s.rest.partition) before

-- the step of a thread at a box, from a coherent cluster in which few events were done, with its messages handed over
abbrev pub BoxesTakeNextWords : Type 0
BoxesTakeNextWords = (k : Cluster) (number t : ℕ) (s : Server) (y : ThreadState) (o : Operand) (before : HasWords (sight k)) → IsCoherent k → FewEvents k → server_at k.servers number ≡ Some s → thread_in s.threads t ≡ Some y → slice_get k.code y.pc ≡ Some (instr.Box o)
    → Gives (λ (d : Cluster × EntryView). HasNextWord k d.0 s y before) (apply k (record { server = number; what = Step t }))
