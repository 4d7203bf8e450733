use Rattle.law_counts_sums.proofs.outcomes.mutexes.Goals as goal
use Rattle.law_counts_sums.proofs.MutexResults.{mutexes_have_results}

pub returns : goal.returns
returns c = mutexes_have_results
