-- Copies are right after a move or an assignment through stars, done or not.
use Rattle.std.proofs.Common.{true}
use Rattle.law_words_ends.specs.Below.law_words_asked.writes.Writing.{assigns, moves}
use Rattle.law_copies_writes.specs.writes.Cover.{AssignmentsKeepCopies, MovesKeepCopies}
use Rattle.law_copies_writes.proofs.writes.Doing.{writes_right}
use Rattle.law_copies_writes.proofs.writes.Assignments.{assignment}
use Rattle.law_copies_writes.proofs.writes.Moves.{move}
use Rattle.law_counts_waiting.specs.Below.fr_base.declared.instruction.Instr.TheVariants as instr

pub assignments_keep : AssignmentsKeepCopies
assignments_keep k number t s y w d o deep coherent few here at code = writes_right k number t s y (instr.Assign w o) w d coherent few here at code (assigns o deep) (λ h on. assignment k coherent few s h t y at on w d o code deep)

pub moves_keep : MovesKeepCopies
moves_keep k number t s y w d deep coherent few here at code = writes_right k number t s y (instr.Read w true) w d coherent few here at code (moves deep) (λ h on. move k coherent few s h t y at on w d code deep)
