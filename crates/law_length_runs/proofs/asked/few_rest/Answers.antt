use Rattle.law_length_runs.proofs.asked.few_rest.Goals as goal
use Rattle.law_length_runs.proofs.asked.Resting.{few_rest}

pub returns : goal.returns
returns c = few_rest
