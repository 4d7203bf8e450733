use Rattle.law_length_runs.proofs.driven.runs_in_rounds_are_driven.Goals as goal
use Rattle.law_length_runs.proofs.driven.Driving.{runs_in_rounds_are_driven}

pub returns : goal.returns
returns c = runs_in_rounds_are_driven c.chosen_runs_are_driven.ensures
