use Rattle.law_length_asks.proofs.left.asks_take_one.Goals as goal
use Rattle.law_length_asks.proofs.left.Steps.{own_steps}

pub returns : goal.returns
returns c = own_steps
