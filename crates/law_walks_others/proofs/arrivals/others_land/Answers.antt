use Rattle.law_walks_others.proofs.arrivals.others_land.Goals as goal
use Rattle.law_walks_others.proofs.arrivals.Kept.{others_followed, others_wait, others_taken, others_passed}

pub returns : goal.returns
returns c = record { place_followed = others_followed; waits_in_turn = others_wait; taken_is_new = others_taken; passed_lie_here = others_passed }
