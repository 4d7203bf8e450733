-- The start of a run is coherent.
use Rattle.std.specs.Prelude.{◌≡◌, List}
use Rattle.coherent_types.specs.Below.fr_base.declared.instruction.Instr.{Instr}
use Rattle.coherent_types.specs.Below.fr_base.declared.settings.Options.{Options}
use Rattle.coherent_types.specs.Below.server_model.Servers.{start_of}
use Rattle.coherent_types.specs.Below.fr_code.CodeTypes.{Table}
use Rattle.coherent_types.specs.Below.fr_code.CodeTable.{IsTable}
use Rattle.coherent_types.specs.Below.coherent_memory.Naming.{options_out}
use Rattle.coherent_types.specs.ClusterTypes.{IsCoherent}

-- that of each code that has a table, with options in their ranges
abbrev pub StartsAreCoherent : Type 0
StartsAreCoherent = (code : List Instr) (table : Table) (o : Options) → IsTable code table → options_out o ≡ 0 → IsCoherent (start_of code o)
