-- ENTRIES OF MOVES OUT OF VARIABLES AND OF ASSIGNMENTS TO THEM ARE LEGAL (in the manner of DRust; the state is this project's).
use Rattle.std.specs.Prelude.{◌≡◌, ⊤, true, Option, Some, slice_get}
use Rattle.law_entries_reads.specs.Below.law_entries_variables.Below.law_words_ends.Below.fr_base.declared.instruction.Instr.{Instr}
use Rattle.law_entries_reads.specs.Below.law_entries_variables.Below.law_words_ends.Below.fr_base.declared.instruction.Instr.TheVariants as instr
use Rattle.law_entries_reads.specs.Below.law_entries_variables.Below.law_words_ends.Below.fr_base.declared.instruction.Operand.{Operand}
use Rattle.law_entries_reads.specs.Below.law_entries_variables.Below.law_words_ends.Below.fr_base.declared.place.Lval.{Lval}
use Rattle.law_entries_reads.specs.Below.law_entries_variables.Below.law_words_ends.Below.thread_state.View.{ThreadState}
use Rattle.law_entries_reads.specs.Below.law_entries_variables.Below.law_words_ends.Below.thread_state.declared.value.Value.{Value}
use Rattle.law_entries_reads.specs.Below.law_entries_variables.Below.law_words_ends.Below.thread_state.declared.value.Value.TheVariants as value
use Rattle.law_entries_reads.specs.Below.law_entries_variables.Below.law_words_ends.variables.Ends.{EndsAtHand}

-- what stands in a variable is no mutable reference to an object, or one that is clean and has its first word or was made from the pointer in a variable
abbrev pub GoesAtHand : Option Value → Type 0
GoesAtHand (Some (value.Mut r)) = EndsAtHand r
GoesAtHand v = ⊤

-- a variable is moved out of, whatever stands there, or gets a value, whatever that is
pub data WritesVariable (y : ThreadState) : Instr → Type 0 where
  moves : (w : Lval) → w.depth ≡ 0 → WritesVariable y (instr.Read w true)
  assigns : (w : Lval) (o : Operand) → w.depth ≡ 0 → GoesAtHand (slice_get y.slots w.slot) → WritesVariable y (instr.Assign w o)
