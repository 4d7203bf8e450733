use Rattle.law_walks_others.proofs.still.others_come.Goals as goal
use Rattle.law_walks_others.proofs.still.Such.{such_lie, such_followed, such_wait}

pub returns : goal.returns
returns c = record { passed_lie_here = such_lie; place_followed = such_followed; waits_in_turn = such_wait }
