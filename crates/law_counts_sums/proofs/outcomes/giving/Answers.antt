use Rattle.law_counts_sums.proofs.outcomes.giving.Goals as goal
use Rattle.law_counts_sums.proofs.AnswerResults.{answers_have_results}

pub returns : goal.returns
returns c = answers_have_results
