-- A STEP MAKES AN OBJECT: it has a word from then on, and each other object has the word that it had (this project's rules).
use Rattle.std.specs.Prelude.{◌≡◌, ℕ, false, Some, slice_get}
use Rattle.law_counts_things.specs.Below.fr_base.declared.name.ObjNo.{ObjNo}
use Rattle.law_counts_things.specs.Below.fr_base.declared.instruction.Operand.{Operand}
use Rattle.law_counts_things.specs.Below.fr_base.declared.instruction.Instr.TheVariants as instr
use Rattle.law_counts_things.specs.Below.journal.View.{EntryView}
use Rattle.law_counts_things.specs.Below.thread_state.View.{ThreadState}
use Rattle.law_counts_things.specs.Below.server_model.declared.event.What.TheVariants.{Step}
use Rattle.law_counts_things.specs.Below.server_model.Servers.{Server, Cluster, server_at}
use Rattle.law_counts_things.specs.Below.server_model.Work.{thread_in}
use Rattle.law_counts_things.specs.Below.server_model.Clusters.{apply}
use Rattle.law_counts_things.specs.Below.coherent_memory.Sight.{sight, issued}
use Rattle.law_counts_things.specs.Below.coherent_memory.Words.{HasWords}
use Rattle.law_counts_things.specs.Below.coherent_types.ClusterTypes.{IsCoherent}
use Rattle.law_counts_things.specs.Below.law_counts_sums.Laws.{Gives, FewEvents}
use Rattle.law_words_values.specs.Below.law_words_paths.words.WordsAfter.{KeepsWords}

-- the object has a word afterwards that wasn't issued before, each other one the word that it had, and what else is kept of words is kept
pub record HasNewWord (k z : Cluster) (o : ObjNo) (before : HasWords (sight k)) : Type 0 where
  pub word : ℕ
  pub new : issued (sight k) word ≡ false
  pub keeps : KeepsWords k z o word before

-- the step of a thread at a box, from a coherent cluster, with its messages handed over
abbrev pub BoxesKeep : Type 0
BoxesKeep = (k : Cluster) (number t : ℕ) (s : Server) (y : ThreadState) (o : Operand) (before : HasWords (sight k)) → IsCoherent k → FewEvents k → server_at k.servers number ≡ Some s → thread_in s.threads t ≡ Some y → slice_get k.code y.pc ≡ Some (instr.Box o)
    → Gives (λ (d : Cluster × EntryView). HasNewWord k d.0 (record { thread = y.number; count = y.made }) before) (apply k (record { server = number; what = Step t }))
