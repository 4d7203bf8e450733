use Rattle.law_counts_limits.proofs.bounds.counts_keep.Goals as goal
use Rattle.law_counts_limits.proofs.bounds.Bounded.{bounds_kept}

pub returns : goal.returns
returns c = record { counts_bounded = bounds_kept }
