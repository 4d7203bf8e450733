use Rattle.law_counts_sums.proofs.outcomes.objects.Goals as goal
use Rattle.law_counts_sums.proofs.ObjectResults.{objects_have_results}

pub returns : goal.returns
returns c = objects_have_results
