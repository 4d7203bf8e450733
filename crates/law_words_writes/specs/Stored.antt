-- A WRITE THROUGH STARS THAT IS DONE keeps the words (this project's rules).
use Rattle.std.specs.Prelude.{◌≡◌, ℕ, suc, true, Some, slice_get}
use Rattle.law_words_asked.specs.Below.fr_base.declared.instruction.Operand.{Operand}
use Rattle.law_words_asked.specs.Below.fr_base.declared.instruction.Instr.TheVariants as instr
use Rattle.law_words_asked.specs.Below.fr_base.declared.place.Lval.{Lval}
use Rattle.law_words_asked.specs.Below.journal.View.{EntryView}
use Rattle.law_words_asked.specs.Below.thread_state.View.{ThreadState}
use Rattle.law_words_asked.specs.Below.server_model.declared.event.What.TheVariants.{Step}
use Rattle.law_words_asked.specs.Below.server_model.Servers.{Server, Cluster, server_at}
use Rattle.law_words_asked.specs.Below.server_model.Work.{thread_in}
use Rattle.law_words_asked.specs.Below.server_model.Clusters.{apply}
use Rattle.law_words_asked.specs.Below.coherent_types.ClusterTypes.{IsCoherent}
use Rattle.law_words_asked.specs.Below.law_counts_sums.Laws.{Gives, FewEvents}
use Rattle.law_words_asked.specs.Below.law_words_kept.prepared.Requests.{WordsRise}

-- the step of a thread that assigns through stars, whether it does its plain step or asks
abbrev pub AssignmentsKeep : Type 0
AssignmentsKeep = (k : Cluster) (number t : ℕ) (s : Server) (y : ThreadState) (w : Lval) (d : ℕ) (o : Operand) → IsCoherent k → FewEvents k → server_at k.servers number ≡ Some s → thread_in s.threads t ≡ Some y → slice_get k.code y.pc ≡ Some (instr.Assign w o) → w.depth ≡ suc d
    → Gives (λ (x : Cluster × EntryView). WordsRise k x.0) (apply k (record { server = number; what = Step t }))

-- that of a thread that moves out through stars
abbrev pub MovesKeep : Type 0
MovesKeep = (k : Cluster) (number t : ℕ) (s : Server) (y : ThreadState) (w : Lval) (d : ℕ) → IsCoherent k → FewEvents k → server_at k.servers number ≡ Some s → thread_in s.threads t ≡ Some y → slice_get k.code y.pc ≡ Some (instr.Read w true) → w.depth ≡ suc d
    → Gives (λ (x : Cluster × EntryView). WordsRise k x.0) (apply k (record { server = number; what = Step t }))
