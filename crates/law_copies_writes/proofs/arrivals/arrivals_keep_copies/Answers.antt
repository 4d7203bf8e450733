use Rattle.law_copies_writes.proofs.arrivals.arrivals_keep_copies.Goals as goal
use Rattle.law_copies_writes.proofs.arrivals.Arrivals.{arrivals_keep}

pub returns : goal.returns
returns c = arrivals_keep
