-- WHICH INSTRUCTIONS put a value at a place, or take it out there (this project's rule).
use Rattle.std.specs.Prelude.{Bool, true, false}
use Rattle.law_heap_writes.specs.Below.fr_base.declared.instruction.Instr.{Instr}
use Rattle.law_heap_writes.specs.Below.fr_base.declared.instruction.Instr.TheVariants as instr

-- a move of what a place leads to, through however many stars
abbrev pub moves_place : Instr → Bool
moves_place (instr.Read w true) = true
moves_place i = false

-- an assignment to it
abbrev pub assigns_place : Instr → Bool
assigns_place (instr.Assign w o) = true
assigns_place i = false
