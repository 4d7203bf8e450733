use Rattle.law_length_asks.proofs.ahead.hops_ahead_are_few.Goals as goal
use Rattle.law_length_asks.proofs.ahead.Lists.{within_stars}
use Rattle.law_length_asks.proofs.ahead.Eight.{eight_ahead}

pub returns : goal.returns
returns c = record { stars = within_stars; eight = eight_ahead }
