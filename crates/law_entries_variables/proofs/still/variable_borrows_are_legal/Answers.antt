use Rattle.law_entries_variables.proofs.still.variable_borrows_are_legal.Goals as goal
use Rattle.law_entries_variables.proofs.still.Borrows.{borrows_legal}

pub returns : goal.returns
returns c = borrows_legal
