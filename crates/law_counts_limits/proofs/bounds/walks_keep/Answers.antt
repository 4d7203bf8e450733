use Rattle.law_counts_limits.proofs.bounds.walks_keep.Goals as goal
use Rattle.law_counts_limits.proofs.bounds.Hops.{passed_kept}

pub returns : goal.returns
returns c = record { passed_within = passed_kept }
