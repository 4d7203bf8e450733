-- COPIES STAY PRESENT CELLS where a mutable reference ends (this project's rules), wherever the pointer stands that it was made from.
use Rattle.std.specs.Prelude.{ℕ}
use Rattle.law_copies_writes.specs.Below.fr_base.declared.instruction.Instr.{Instr}
use Rattle.law_copies_writes.specs.Below.mut_borrow.declared.mutable.MutRef.{MutRef}
use Rattle.law_copies_writes.specs.Below.thread_state.View.{ThreadState}
use Rattle.law_copies_writes.specs.Below.server_model.Servers.{Server, Cluster}
use Rattle.law_words_ends.specs.variables.Ends.{EndsReference}
use Rattle.law_copies_writes.specs.Below.law_copies_kept.objects.Fresh.{StepLeavesRight}

-- the step of a thread that ends the reference, with its slot, from the hand or where it is assigned over, leaves copies that are right, whether it does its plain step or asks
abbrev pub EndsKeepCopies : Type 0
EndsKeepCopies = (k : Cluster) (number t : ℕ) (s : Server) (y : ThreadState) (i : Instr) (r : MutRef) → EndsReference y r i → StepLeavesRight k number t s y i
