use Rattle.law_plain_table.proofs.laws.codes_of_examples.Goals as goal
use Rattle.law_plain_table.proofs.Examples.{codes_of_examples}

pub returns : goal.returns
returns c = codes_of_examples
