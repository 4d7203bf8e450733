-- The plain machine that runs code.
use Rattle.std.specs.Prelude.{ℕ, List, [], Option}
use Rattle.fr_sound.specs.Below.fr_base.declared.step.Fresh.{Fresh}
use Rattle.fr_sound.specs.Below.fr_base.declared.instruction.Instr.{Instr}
use Rattle.fr_sound.specs.Below.fr_plain.MachineThreads.{Life, Thread, Whole}
use Rattle.fr_sound.specs.Below.fr_plain.Machine.{Stepped, Turn, step, run, start}
use Rattle.fr_sound.specs.Below.fr_plain.PlainState.{Running, PlainState}
use Rattle.fr_code.specs.Steps.{Place, code_moves}

abbrev pub CodeLife : Type 0
CodeLife = Life Place

abbrev pub CodeThread : Type 0
CodeThread = Thread Place

abbrev pub CodeWhole : Type 0
CodeWhole = Whole Place

abbrev pub CodeStepped : Type 0
CodeStepped = Stepped Place

-- what is shown of a thread that goes on, and of a state
abbrev pub CodeRunning : Type 0
CodeRunning = Running Place

abbrev pub CodeState : Type 0
CodeState = PlainState Place

-- one instruction of that thread with these new names; None where it isn't an enabled step
abbrev pub code_step : List Instr → CodeWhole → ℕ → Fresh → Option CodeStepped
code_step code c t names = step (code_moves code) c t names

abbrev pub code_run : List Instr → CodeWhole → List Turn → Option CodeStepped
code_run code c order = run (code_moves code) c order

-- the main thread alone, at the first instruction
abbrev pub code_start : CodeWhole
code_start = start (code_moves []) (record { pc = 0; temps = [] })
