use Rattle.law_length_runs.proofs.worth.runs_are_short.Goals as goal
use Rattle.law_length_runs.proofs.worth.Runs.{starts_with_little, runs_are_short}

pub returns : goal.returns
returns c = record { start = starts_with_little; runs = runs_are_short }
