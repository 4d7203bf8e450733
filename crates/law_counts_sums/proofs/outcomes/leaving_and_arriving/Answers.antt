use Rattle.law_counts_sums.proofs.outcomes.leaving_and_arriving.Goals as goal
use Rattle.law_counts_sums.proofs.HaveResults.{evictions, starts, parcels}

pub returns : goal.returns
returns c = record { evictions = evictions; starts = starts; parcels = parcels }
