use Rattle.law_length_runs.proofs.asked.runs_end.Goals as goal
use Rattle.law_length_runs.proofs.asked.Runs.{steps_are_few, runs_end}

pub returns : goal.returns
returns c = record { steps = steps_are_few; runs = runs_end }
