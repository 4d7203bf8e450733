-- ENTRIES OF BOXES ARE LEGAL (in the manner of DRust; the state is this project's).
use Rattle.law_entries_writes.specs.Below.law_entries_reads.Below.law_words_borrows.Below.fr_base.declared.instruction.Instr.{Instr}
use Rattle.law_entries_writes.specs.Below.law_entries_reads.Below.law_words_borrows.Below.fr_base.declared.instruction.Instr.TheVariants as instr
use Rattle.law_entries_writes.specs.Below.law_entries_reads.Below.law_words_borrows.Below.fr_base.declared.instruction.Operand.{Operand}
use Rattle.law_entries_writes.specs.Below.law_entries_reads.Below.law_words_borrows.Below.thread_state.View.{ThreadState}

-- an object is made
pub data MakesBox (y : ThreadState) : Instr → Type 0 where
  boxes : (o : Operand) → MakesBox y (instr.Box o)
