use Rattle.law_length_asks.proofs.left.others_leave_asks.Goals as goal
use Rattle.law_length_asks.proofs.left.Beside.{others_steps}

pub returns : goal.returns
returns c = others_steps
