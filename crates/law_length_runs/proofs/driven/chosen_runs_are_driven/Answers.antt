use Rattle.law_length_runs.proofs.driven.chosen_runs_are_driven.Goals as goal
use Rattle.law_length_runs.proofs.driven.Driving.{chosen_runs_are_driven}

pub returns : goal.returns
returns c = chosen_runs_are_driven c.starts_are_coherent.ensures
