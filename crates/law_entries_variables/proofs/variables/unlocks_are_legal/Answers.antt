use Rattle.law_entries_variables.proofs.variables.unlocks_are_legal.Goals as goal
use Rattle.law_entries_variables.proofs.variables.Unlocks.{unlocks_legal}

pub returns : goal.returns
returns c = unlocks_legal
