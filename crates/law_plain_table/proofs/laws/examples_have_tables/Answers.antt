use Rattle.law_plain_table.proofs.laws.examples_have_tables.Goals as goal
use Rattle.law_plain_table.proofs.Examples.{examples_have_tables}

pub returns : goal.returns
returns c = examples_have_tables
