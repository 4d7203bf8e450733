-- COPIES STAY PRESENT CELLS at writes through stars (this project's rules).
use Rattle.std.specs.Prelude.{◌≡◌, ℕ, suc, true}
use Rattle.law_counts_waiting.specs.Below.fr_base.declared.place.Lval.{Lval}
use Rattle.law_counts_waiting.specs.Below.fr_base.declared.instruction.Operand.{Operand}
use Rattle.law_counts_waiting.specs.Below.fr_base.declared.instruction.Instr.TheVariants as instr
use Rattle.law_counts_waiting.specs.Below.thread_state.View.{ThreadState}
use Rattle.law_counts_waiting.specs.Below.server_model.Servers.{Server, Cluster}
use Rattle.law_copies_kept.specs.objects.Fresh.{StepLeavesRight}

-- an assignment through so many stars and one, whether it is done or asks for an object on its way, leaves copies that are right
abbrev pub AssignmentsKeepCopies : Type 0
AssignmentsKeepCopies = (k : Cluster) (number t : ℕ) (s : Server) (y : ThreadState) (w : Lval) (d : ℕ) (o : Operand) → w.depth ≡ suc d → StepLeavesRight k number t s y (instr.Assign w o)

-- so does a move out of a place with stars
abbrev pub MovesKeepCopies : Type 0
MovesKeepCopies = (k : Cluster) (number t : ℕ) (s : Server) (y : ThreadState) (w : Lval) (d : ℕ) → w.depth ≡ suc d → StepLeavesRight k number t s y (instr.Read w true)
