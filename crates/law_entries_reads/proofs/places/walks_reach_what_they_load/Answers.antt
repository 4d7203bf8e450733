use Rattle.law_entries_reads.proofs.places.walks_reach_what_they_load.Goals as goal
use Rattle.law_entries_reads.proofs.places.WalksReach.{walks_reach}

pub returns : goal.returns
returns c = walks_reach
