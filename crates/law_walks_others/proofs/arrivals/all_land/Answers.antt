use Rattle.law_walks_others.proofs.arrivals.all_land.Goals as goal
use Rattle.law_walks_others.proofs.arrivals.All.{unstepped_followed, unstepped_lie, unstepped_wait}

pub returns : goal.returns
returns c = record { passed_lie_here = unstepped_lie; place_followed = unstepped_followed; waits_in_turn = unstepped_wait }
