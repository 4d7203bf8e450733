use Rattle.law_copies_writes.proofs.arrivals.end_arrivals_keep_copies.Goals as goal
use Rattle.law_copies_writes.proofs.arrivals.EndArrivals.{ends_keep}

pub returns : goal.returns
returns c = ends_keep
