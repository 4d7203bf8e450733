-- The plain run of a code: the state that a state of the machine is, name by name, with the labels (this project's rule).
use Rattle.std.specs.Prelude.{List, Option, Some, None}
use Rattle.fr_base.specs.declared.label.Label.{Label}
use Rattle.fr_base.specs.declared.instruction.Instr.{Instr}
use Rattle.fr_plain.specs.PlainState.{plain_state}
use Rattle.fr_code.specs.Machine.{CodeState, CodeStepped}
use Rattle.coherent_memory.specs.LeftBy.{PlainRun}
use Rattle.code_meaning.specs.Runs.{run}

abbrev pub in_plain : Option CodeStepped → Option (CodeState × List Label)
in_plain None = None
in_plain (Some d) = Some (plain_state d.state, d.labels)

-- the plain run of a code
abbrev pub plain_run : List Instr → PlainRun
plain_run code order = in_plain (run code order)
