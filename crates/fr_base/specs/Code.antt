-- Code with the place of a new thread's code put into an instruction.
use Rattle.std.specs.Prelude.{ℕ, List, Option, Some, None, slice_get, slice_set}
use Rattle.fr_base.specs.declared.instruction.Instr.{Instr}
use Rattle.fr_base.specs.declared.instruction.Instr.TheVariants.{Spawn, Par}

-- the code of the new thread, of two the first one's, stands there
abbrev pub starting : ℕ → Instr → Instr
starting body (Spawn captures to) = Spawn captures body
starting body (Par captures to others other) = Par captures body others other
starting body i = i

-- the code of the second of two new threads stands there
abbrev pub starting_other : ℕ → Instr → Instr
starting_other body (Par captures to others other) = Par captures to others body
starting_other body i = i

abbrev pub change : (Instr → Instr) → List Instr → ℕ → Option Instr → List Instr
change f is at None = is
change f is at (Some i) = slice_set is at (f i)

-- another instruction stands at that place
abbrev pub change_at : (Instr → Instr) → List Instr → ℕ → List Instr
change_at f is at = change f is at (slice_get is at)

abbrev pub with_body : List Instr → ℕ → ℕ → List Instr
with_body is at body = change_at (starting body) is at

abbrev pub with_other : List Instr → ℕ → ℕ → List Instr
with_other is at body = change_at (starting_other body) is at
