-- The code runs as the term does.
use Rattle.std.proofs.Common.{[]}
use Rattle.fr_sound.specs.Below.fr_plain.Run.{terms}
use Rattle.fr_sound.specs.Below.fr_plain.Whole.{start}
use Rattle.fr_sound.proofs.Below.fr_plain.Alike.{step_alike, run_alike, start_alike, refused_alike, ending_alike}
use Rattle.fr_code.specs.Steps.{code_moves}
use Rattle.fr_code.specs.Machine.{code_start}
use Rattle.fr_code.specs.Laws.{StandsAt, StepsAlike, RefusalsAlike, EndingsAlike, StartsAlike, RunsAlike}
use Rattle.fr_code.proofs.Settling.{starts_stand}
use Rattle.fr_code.proofs.Threads.{moves_alike}

-- a step of the plain machine is a step of the code
pub steps_alike : StepsAlike
steps_alike code s c h t names = step_alike (StandsAt code) terms (code_moves code) (moves_alike code) s c h t names

-- refused for the same cause
pub refusals_alike : RefusalsAlike
refusals_alike code s c h t names = refused_alike (StandsAt code) terms (code_moves code) s c h (moves_alike code) t names

pub endings_alike : EndingsAlike
endings_alike code s c h = ending_alike (StandsAt code) terms (code_moves code) s c h (moves_alike code)

-- the code of a program starts where the program does
pub starts_alike : StartsAlike
starts_alike code r f = start_alike (StandsAt code) terms (code_moves code) r (record { pc = 0; temps = [] }) (starts_stand code 0 r f)

-- under each order the code of a program runs as the program does
pub runs_alike : RunsAlike
runs_alike code r f order = run_alike (StandsAt code) terms (code_moves code) (moves_alike code) (start r) code_start (starts_alike code r f) order
