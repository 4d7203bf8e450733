use Rattle.code_meaning.proofs.laws.prints_alike.Goals as goal
use Rattle.code_meaning.proofs.Printing.{prints_are_labelled, prints_alike}

pub returns-clause-labelled : goal.returns-clause-labelled
returns-clause-labelled c = prints_are_labelled

pub returns-clause-alike : goal.returns-clause-alike
returns-clause-alike c = prints_alike
