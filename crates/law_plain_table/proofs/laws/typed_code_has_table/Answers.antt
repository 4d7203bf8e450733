use Rattle.law_plain_table.proofs.laws.typed_code_has_table.Goals as goal
use Rattle.law_plain_table.proofs.Programs.{programs_have_tables}

pub returns : goal.returns
returns c = programs_have_tables
