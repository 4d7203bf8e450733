-- Codes and their tables, and a code that has none.
use Rattle.std.specs.Prelude.{pos, true, List, [], ◌∷◌, Some}
use Rattle.coherent_memory.specs.Below.fr_base.declared.instruction.Operand.TheVariants as operand
use Rattle.coherent_memory.specs.Below.fr_base.declared.instruction.Instr.{Instr}
use Rattle.coherent_memory.specs.Below.fr_base.declared.instruction.Instr.TheVariants as instr
use Rattle.coherent_memory.specs.Below.fr_typing.Kinds.{unit, int, box, own, whole}
use Rattle.coherent_memory.specs.Below.fr_typing.Places.{Slot}
use Rattle.sample_clusters.specs.Clusters.{place, boxed_code}
use Rattle.coherent_memory.specs.Below.fr_code.CodeTypes.{Entry, Table, table_of, going}
use Rattle.coherent_memory.specs.Below.fr_code.CodeTable.{IsTable}

abbrev pub box_slot : Slot
box_slot = record { name = Some (120 ∷ []); part = whole (own (box int)) }

-- the table of { let mut x = box 1; *x = 2; print *x }
abbrev pub boxed_entries : List Entry
boxed_entries =
    going [] [] unit ∷ going [] (own (box int) ∷ []) unit ∷ going (box_slot ∷ []) [] unit ∷ going (box_slot ∷ []) [] unit
    ∷ going (box_slot ∷ []) (own int ∷ []) unit ∷ going (box_slot ∷ []) [] unit ∷ going [] [] unit ∷ []

abbrev pub boxed_table : Table
boxed_table = table_of boxed_entries

-- the code of { let mut x = box 1; x; x }, where x has moved away before it is read again
abbrev pub moved_code : List Instr
moved_code =
    instr.Box (operand.Const (pos 1)) ∷ instr.Let operand.Pop ∷ instr.Read (place 0 0) true ∷ instr.Discard ∷ instr.Read (place 0 0) true ∷ instr.Discard
    ∷ instr.DropSlot ∷ instr.End operand.Unit ∷ []

-- the first code has its table, and no table is one of the second
pub record CodesCompute : Type 0 where
  pub boxed : IsTable boxed_code boxed_table
  pub moved : (table : Table) → IsTable moved_code table → ⊥
