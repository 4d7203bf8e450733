use Rattle.law_copies_writes.proofs.arrivals.read_arrivals_keep_copies.Goals as goal
use Rattle.law_copies_writes.proofs.arrivals.ReadArrivals.{reads_keep}

pub returns : goal.returns
returns c = reads_keep
