use Rattle.law_length_asks.proofs.hops.hops_beside_stay.Goals as goal
use Rattle.law_length_asks.proofs.hops.Beside.{events_beside_leave}

pub returns : goal.returns
returns c = events_beside_leave
