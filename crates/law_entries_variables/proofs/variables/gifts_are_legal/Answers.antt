use Rattle.law_entries_variables.proofs.variables.gifts_are_legal.Goals as goal
use Rattle.law_entries_variables.proofs.variables.Gifts.{gifts_legal}

pub returns : goal.returns
returns c = gifts_legal
