use Rattle.law_entries_variables.proofs.variables.plain_drops_are_legal.Goals as goal
use Rattle.law_entries_variables.proofs.variables.Drops.{plain_drops_legal}

pub returns : goal.returns
returns c = plain_drops_legal
