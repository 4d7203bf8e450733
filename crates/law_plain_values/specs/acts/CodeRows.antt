-- Instructions are granted by the rows of acts: what the typing of instructions lets an instruction do, the typing of acts lets its act do (this
-- project's rule).
use Rattle.std.specs.Prelude.{◌≡◌, ◌⊎◌, ℕ, ◌+◌, List, [], length, Some}
use Rattle.fr_base.specs.declared.instruction.Operand.{Operand}
use Rattle.fr_base.specs.declared.instruction.Instr.{Instr}
use Rattle.fr_base.specs.declared.instruction.Instr.TheVariants as instr
use Rattle.fr_typing.specs.Kinds.{Owned, Kind, own}
use Rattle.fr_plain.specs.declared.value.Value.{Value}
use Rattle.fr_plain.specs.MachineThreads.{constant, temporary}
use Rattle.fr_sound.specs.Entries.{Entry, going}
use Rattle.fr_code.specs.CodeTypes.{Table, Takes, InstrTypes}
use Rattle.fr_code.specs.Steps.{Place, CodeAct, went, run_instr, over_at}
use Rattle.law_plain_values.specs.acts.ActRows.{Leaves, left_after, ActRow, EndsAs}

-- the body of a new thread starts with an entry of the table, and without a temporary value
abbrev pub BodyIn : Table → Place → Entry → Type 0
BodyIn table p x = (table p.pc ≡ Some x) × (p.temps ≡ [])

-- with these temporary values the instruction has an act, which a row grants, and its thread comes to the next instruction
pub record HasRow (table : Table) (pc : ℕ) (x : Entry) (vs : List Value) (i : Instr) (z : Entry) : Type 0 where
  pub act : CodeAct
  pub leaves : Leaves
  pub is : run_instr (Some i) pc vs ≡ went (λ v. pc + 1) (λ v. left_after leaves v) act
  pub row : ActRow (BodyIn table) x vs act leaves z

-- so does each typed instruction
abbrev pub InstructionsHaveRows : Type 0
InstructionsHaveRows = (table : Table) (pc : ℕ) (x z : Entry) (i : Instr) (vs : List Value) → InstrTypes table x i z → length vs ≡ length x.temps → HasRow table pc x vs i z

-- and the end of a thread has its value at hand
pub record HasEnd (x : Entry) (vs : List Value) (o : Operand) : Type 0 where
  pub value : Value
  pub is : (over_at (Some (instr.End o)) vs ≡ constant value) ⊎ (over_at (Some (instr.End o)) vs ≡ temporary value)
  pub ends : EndsAs x vs value

abbrev pub EndsHaveRows : Type 0
EndsHaveRows = (ts : List Kind) (g : Owned) (o : Operand) (vs : List Value) → Takes o ts (own g) [] → length vs ≡ length ts → HasEnd (going [] ts g) vs o
