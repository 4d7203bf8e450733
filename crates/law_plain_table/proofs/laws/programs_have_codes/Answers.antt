use Rattle.law_plain_table.proofs.laws.programs_have_codes.Goals as goal
use Rattle.law_plain_table.proofs.Generations.{has_its_code, roomy_codes}
use Rattle.law_plain_table.proofs.Programs.{programs_have_codes, codes_have_tables}

pub returns-clause-terms : goal.returns-clause-terms
returns-clause-terms c = has_its_code

pub returns-clause-roomy : goal.returns-clause-roomy
returns-clause-roomy c = roomy_codes

pub returns-clause-programs : goal.returns-clause-programs
returns-clause-programs c = programs_have_codes

pub returns-clause-tables : goal.returns-clause-tables
returns-clause-tables c = codes_have_tables
