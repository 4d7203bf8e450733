use Rattle.law_counts_sums.proofs.outcomes.getting.Goals as goal
use Rattle.law_counts_sums.proofs.StepResults.{steps_have_results}

pub returns : goal.returns
returns c = steps_have_results
