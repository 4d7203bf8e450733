use Rattle.law_walks_own.proofs.steps.own_walks_stand.Goals as goal
use Rattle.law_walks_own.proofs.steps.OwnWalks.{own_passed, own_followed, own_turn}

pub returns : goal.returns
returns c = record { passed_lie_here = own_passed; place_followed = own_followed; waits_in_turn = own_turn }
