use Rattle.law_length_asks.proofs.ahead.hops_ahead_stay.Goals as goal
use Rattle.law_length_asks.proofs.ahead.Events.{others_leave, steady_leave, moves_leave, drops_leave}

pub returns : goal.returns
returns c = record { others = others_leave; steady = steady_leave; moves = moves_leave; drops = drops_leave }
