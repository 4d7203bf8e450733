use Rattle.law_length_asks.proofs.left.asks_are_few.Goals as goal
use Rattle.law_length_asks.proofs.left.Few.{few}

pub returns : goal.returns
returns c = few
