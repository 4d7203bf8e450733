-- That the code of a typed program has a table.
use Rattle.std.specs.Prelude.{◌≡◌, ℕ, List, []}
use Rattle.fr_base.specs.declared.instruction.Instr.{Instr}
use Rattle.fr_terms.specs.Terms.{block_t, Items}
use Rattle.fr_terms.specs.Limits.{HasShortPlaces}
use Rattle.fr_typing.specs.Kinds.{Kind, own}
use Rattle.fr_typing.specs.Places.{Env}
use Rattle.fr_typing.specs.Typing.{Types}
use Rattle.fr_plain.specs.Resolve.{program}
use Rattle.fr_code.specs.CodeTypes.{Table}
use Rattle.fr_code.specs.CodeTable.{IsTable}
use Rattle.fr_code.specs.StandsFor.{IsCodeOf}
use Rattle.law_plain_table.specs.Layout.{IsLaidOut}

-- the code has a table; main's result has the type of the program
pub record HasTable (code : List Instr) (k : Kind) : Type 0 where
  pub table : Table
  pub is : IsTable code table
  pub result : k ≡ own is.main

-- each code of a typed program, whatever its forms, has one
abbrev pub ProgramsHaveTables : Type 0
ProgramsHaveTables = (code : List Instr) (at : ℕ) (items : Items) (k : Kind) (e : Env) → HasShortPlaces (block_t at items) → Types [] (block_t at items) k e → IsCodeOf code (program (block_t at items)) → IsLaidOut code → HasTable code k
