-- The table of a code: what typing knows before each instruction to which it knows a way, by the typing of instructions (this project's rule).
use Rattle.std.specs.Prelude.{◌≡◌, ℕ, ◌+◌, List, [], ◌∷◌, Some, slice_get}
use Rattle.fr_sound.specs.Below.fr_base.declared.instruction.Operand.{Operand}
use Rattle.fr_sound.specs.Below.fr_base.declared.instruction.Instr.{Instr}
use Rattle.fr_sound.specs.Below.fr_base.declared.instruction.Instr.TheVariants as instr
use Rattle.fr_sound.specs.Below.fr_typing.Kinds.{Owned, Kind, own}
use Rattle.fr_code.specs.CodeTypes.{Entry, going, Table, Takes, InstrTypes}
use Rattle.fr_code.specs.Joins.{JoinsTo}

-- the places of the instructions to which one leads, with what typing knows then on this way
abbrev pub Successors : Type 0
Successors = List (ℕ × Entry)

-- an instruction leads to the next one; or it ends its thread, with no slot left, with the operand alone and of the type of the thread's result
pub data Leads (table : Table) (pc : ℕ) : Entry → Instr → Successors → Type 0 where
  to_next : {x y : Entry} {i : Instr} → InstrTypes table x i y → Leads table pc x i ((pc + 1, y) ∷ [])
  ends : {ts : List Kind} {g : Owned} {o : Operand} → Takes o ts (own g) [] → Leads table pc (going [] ts g) (instr.End o) []

-- the table has an entry there, to which this one joins
pub record Enters (table : Table) (pc : ℕ) (x : Entry) : Type 0 where
  pub entry : Entry
  pub at : table pc ≡ Some entry
  pub joins : JoinsTo x entry

abbrev pub AllEnter : Table → Successors → Type 0
AllEnter table [] = Unit {0}
AllEnter table (s ∷ ss) = Enters table s.0 s.1 × AllEnter table ss

-- an instruction stands there that is typed from the entry, and the table goes on wherever it leads
pub record Row (code : List Instr) (table : Table) (pc : ℕ) (x : Entry) : Type 0 where
  pub instruction : Instr
  pub there : slice_get code pc ≡ Some instruction
  pub successors : Successors
  pub leads : Leads table pc x instruction successors
  pub enter : AllEnter table successors

-- the table is one of the code: main starts at the first instruction without a slot, and from each entry the instruction there is typed. What no
-- thread comes to needs no entry
pub record IsTable (code : List Instr) (table : Table) : Type 0 where
  -- the type of main's result, which is dropped
  pub main : Owned
  pub starts : table 0 ≡ Some (going [] [] main)
  pub rows : (pc : ℕ) (x : Entry) → table pc ≡ Some x → Row code table pc x
