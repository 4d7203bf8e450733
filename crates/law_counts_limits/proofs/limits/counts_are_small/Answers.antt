use Rattle.law_counts_limits.proofs.limits.counts_are_small.Goals as goal
use Rattle.law_counts_limits.proofs.limits.Counts.{counts_are_small, few_are_few}

pub returns : goal.returns
returns c = record { counts = counts_are_small; few = few_are_few }
