-- Runs of compiled code over one heap under an order, from its start, how a state stands, and what its threads wait for (this project's rule).
use Rattle.std.specs.Prelude.{ℕ, nat_lt, List, [], ◌∷◌, Option, Some, None, if◌then◌else◌}
use Rattle.fr_base.specs.declared.step.Wait.{Wait}
use Rattle.fr_base.specs.declared.step.Ending3.{Ending3}
use Rattle.fr_base.specs.declared.instruction.Instr.{Instr}
use Rattle.fr_plain.specs.Machine as machine
use Rattle.fr_plain.specs.Machine.{Turn}
use Rattle.fr_code.specs.Steps.{code_moves}
use Rattle.fr_code.specs.Machine.{CodeThread, CodeWhole, CodeStepped, code_run, code_start}

abbrev pub run : List Instr → List Turn → Option CodeStepped
run code ts = code_run code code_start ts

abbrev placed : ℕ → Wait → List (ℕ × Wait) → List (ℕ × Wait)
placed t w [] = (t, w) ∷ []
placed t w (x ∷ xs) = if nat_lt x.0 t then x ∷ placed t w xs else (t, w) ∷ x ∷ xs

abbrev with_wait : ℕ → Option Wait → List (ℕ × Wait) → List (ℕ × Wait)
with_wait t None ws = ws
with_wait t (Some w) ws = placed t w ws

abbrev waits_in : List Instr → CodeWhole → List CodeThread → List (ℕ × Wait)
waits_in code s [] = []
waits_in code s (y ∷ ys) = with_wait y.number (machine.waits_for (code_moves code) s y) (waits_in code s ys)

-- the threads that wait and for what, by rising thread
abbrev pub waits : List Instr → CodeWhole → List (ℕ × Wait)
waits code s = waits_in code s s.threads

abbrev pub ending_of : List Instr → CodeWhole → Ending3
ending_of code s = machine.ending_of (code_moves code) s
