use Rattle.law_copies_writes.proofs.arrivals.write_arrivals_keep_copies.Goals as goal
use Rattle.law_copies_writes.proofs.arrivals.WriteArrivals.{writes_keep}

pub returns : goal.returns
returns c = writes_keep
