use Rattle.coherent_types.proofs.laws.codes_are_typed.Goals as goal
use Rattle.coherent_types.proofs.Codes.{codes_compute}
use Rattle.coherent_types.proofs.Tables.{tables_compute}

pub returns-clause-small : goal.returns-clause-small
returns-clause-small c = codes_compute

pub returns-clause-tables : goal.returns-clause-tables
returns-clause-tables c = tables_compute
