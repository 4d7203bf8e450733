use Rattle.law_length_runs.proofs.worth.driven_runs_are_short.Goals as goal
use Rattle.law_length_runs.proofs.worth.Driven.{driven_move_few, driven_runs_are_short}

pub returns : goal.returns
returns c = record { moves = driven_move_few; runs = driven_runs_are_short }
