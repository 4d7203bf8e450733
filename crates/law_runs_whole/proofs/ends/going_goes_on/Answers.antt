use Rattle.law_runs_whole.proofs.ends.going_goes_on.Goals as goal
use Rattle.law_runs_whole.proofs.ends.Going.{going_can, can_is_going}

pub returns : goal.returns
returns c = record { can = going_can; going = can_is_going }
