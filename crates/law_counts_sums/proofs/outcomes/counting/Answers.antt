use Rattle.law_counts_sums.proofs.outcomes.counting.Goals as goal
use Rattle.law_counts_sums.proofs.DupResults.{dups_have_results}
use Rattle.law_counts_sums.proofs.MovedResults.{moved_have_results}
use Rattle.law_counts_sums.proofs.FetchedResults.{fetched_have_results}

pub returns : goal.returns
returns c = record { dups = dups_have_results; copies = fetched_have_results; objects = moved_have_results }
