-- When a state of the code stands for a state of the machine that runs terms, and that both take the same steps (this project's rule).
use Rattle.std.specs.Prelude.{◌≡◌, ℕ, List, Option}
use Rattle.fr_sound.specs.Below.fr_base.declared.step.Fresh.{Fresh}
use Rattle.fr_sound.specs.Below.fr_base.declared.instruction.Instr.{Instr}
use Rattle.fr_sound.specs.Below.fr_plain.declared.value.Value.{Value}
use Rattle.fr_sound.specs.Below.fr_plain.Run.{Run, settle, terms}
use Rattle.fr_sound.specs.Below.fr_plain.Acts.{Act}
use Rattle.fr_sound.specs.Below.fr_plain.Whole.{Whole, Stepped, Turn, step, refused, start, plain, ending_of}
use Rattle.fr_sound.specs.Below.fr_plain.Machine as machine
use Rattle.fr_sound.specs.Below.fr_plain.SamePlain.{OnceStays, SamePlain}
use Rattle.fr_sound.specs.Below.fr_plain.Alike.{Alike, SteppedAlike, ActsAlike, PlacesAlike}
use Rattle.fr_code.specs.Steps.{Place, CodeAct, code_moves}
use Rattle.fr_code.specs.Machine.{CodeWhole, CodeStepped, code_step, code_run, code_start}
use Rattle.fr_code.specs.StandsFor.{Stands, IsCodeOf}

-- STATES

-- a place in the code stands for a term
abbrev pub StandsAt : List Instr → Run → Place → Type 0
StandsAt code r p = Stands code p.pc p.temps r

-- each thread stands for its own, over the same heap and with the same output
abbrev pub StandsWhole : List Instr → Whole → CodeWhole → Type 0
StandsWhole code s c = Alike (StandsAt code) s c

-- STEPS

-- the same act; at the start of a thread the place that the instruction names stands for its term
abbrev pub SameAct : List Instr → Act → CodeAct → Type 0
SameAct code a b = ActsAlike (StandsAt code) terms (code_moves code) a b

-- neither steps without the other
abbrev pub SameSteps : List Instr → Option Stepped → Option CodeStepped → Type 0
SameSteps code x y = SteppedAlike (StandsAt code) x y

-- THE LAWS

-- what needs no step in a term has no instruction
abbrev pub SettlingStands : Type 0
SettlingStands = (code : List Instr) (p : ℕ) (ts : List Value) (r : Run) → Stands code p ts r → Stands code p ts (settle r)

-- a thread and its code make the same move
abbrev pub MovesAlike : Type 0
MovesAlike = (code : List Instr) → PlacesAlike (StandsAt code) terms (code_moves code)

-- a step of the plain machine is a step of the code, with the same labels
abbrev pub StepsAlike : Type 0
StepsAlike = (code : List Instr) (s : Whole) (c : CodeWhole) → StandsWhole code s c → (t : ℕ) (names : Fresh) → SameSteps code (step s t names) (code_step code c t names)

-- a step of a thread is refused for the same cause
abbrev pub RefusalsAlike : Type 0
RefusalsAlike = (code : List Instr) (s : Whole) (c : CodeWhole) → StandsWhole code s c → (t : ℕ) (names : Fresh) → refused s t names ≡ machine.refused (code_moves code) c t names

-- both have finished, are deadlocked, or go on
abbrev pub EndingsAlike : Type 0
EndingsAlike = (code : List Instr) (s : Whole) (c : CodeWhole) → StandsWhole code s c → ending_of s ≡ machine.ending_of (code_moves code) c

-- the code of a program starts where the program does
abbrev pub StartsAlike : Type 0
StartsAlike = (code : List Instr) (r : Run) → IsCodeOf code r → StandsWhole code (start r) code_start

-- under each order the code of a program runs as the program does
abbrev pub RunsAlike : Type 0
RunsAlike = (code : List Instr) (r : Run) → IsCodeOf code r → (order : List Turn) → SameSteps code (plain r order) (code_run code code_start order)

-- states of a code whose plain states are the same take the same steps and runs, and end alike
abbrev pub SamePlainCode : Type 0
SamePlainCode = (code : List Instr) → SamePlain (code_moves code)

abbrev pub OnceStaysInCode : Type 0
OnceStaysInCode = (code : List Instr) → OnceStays (code_moves code)
