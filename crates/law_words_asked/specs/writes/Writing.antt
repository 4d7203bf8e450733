-- A STEP THAT WRITES THROUGH STARS keeps the words (this project's rules).
use Rattle.std.specs.Prelude.{◌≡◌, ℕ, suc, true, Some, None, slice_get}
use Rattle.law_results_events.specs.Below.fr_base.declared.instruction.Operand.{Operand}
use Rattle.law_results_events.specs.Below.fr_base.declared.instruction.Instr.{Instr}
use Rattle.law_results_events.specs.Below.fr_base.declared.instruction.Instr.TheVariants as instr
use Rattle.law_results_events.specs.Below.fr_base.declared.place.Lval.{Lval}
use Rattle.law_results_events.specs.Below.journal.View.{EntryView}
use Rattle.law_results_events.specs.Below.thread_state.View.{ThreadState}
use Rattle.law_results_events.specs.Below.server_model.declared.event.What.TheVariants.{Step}
use Rattle.law_results_events.specs.Below.server_model.Servers.{Server, Cluster, server_at}
use Rattle.law_results_events.specs.Below.server_model.Work.{thread_in}
use Rattle.law_results_events.specs.Below.server_model.Clusters.{apply}
use Rattle.law_results_events.specs.Below.coherent_types.ClusterTypes.{IsCoherent}
use Rattle.law_results_events.specs.Below.law_counts_sums.Laws.{Gives, FewEvents}
use Rattle.law_results_events.specs.Below.law_words_kept.prepared.Requests.{WordsRise}

-- an instruction that assigns or moves out through so many stars and one
pub data WritesThrough : Instr → Lval → ℕ → Type 0 where
  assigns : {w : Lval} {d : ℕ} (o : Operand) → w.depth ≡ suc d → WritesThrough (instr.Assign w o) w d
  moves : {w : Lval} {d : ℕ} → w.depth ≡ suc d → WritesThrough (instr.Read w true) w d

-- its step, where it does no plain step: the words hold once its messages are handed over
abbrev pub WritesThatAsk : Type 0
WritesThatAsk = (k : Cluster) (number t : ℕ) (s : Server) (y : ThreadState) (i : Instr) (w : Lval) (d : ℕ) → IsCoherent k → FewEvents k → server_at k.servers number ≡ Some s → thread_in s.threads t ≡ Some y → slice_get k.code y.pc ≡ Some i → WritesThrough i w d
    → Gives (λ (x : Cluster × EntryView). x.1.done ≡ None → WordsRise k x.0) (apply k (record { server = number; what = Step t }))
