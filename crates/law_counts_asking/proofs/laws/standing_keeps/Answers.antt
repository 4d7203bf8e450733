use Rattle.law_counts_asking.proofs.laws.standing_keeps.Goals as goal
use Rattle.law_counts_asking.proofs.AtInstructions.{asked_there}

pub returns : goal.returns
returns c = asked_there
