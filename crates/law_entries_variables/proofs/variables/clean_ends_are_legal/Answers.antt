use Rattle.law_entries_variables.proofs.variables.clean_ends_are_legal.Goals as goal
use Rattle.law_entries_variables.proofs.variables.CleanEnds.{clean_ends_legal}

pub returns : goal.returns
returns c = clean_ends_legal
