use Rattle.law_walks_own.proofs.steps.steps_keep_walks.Goals as goal
use Rattle.law_walks_own.proofs.steps.OwnWalks.{steps_passed, steps_followed, steps_turn}

pub returns : goal.returns
returns c = record { passed_lie_here = steps_passed; place_followed = steps_followed; waits_in_turn = steps_turn }
