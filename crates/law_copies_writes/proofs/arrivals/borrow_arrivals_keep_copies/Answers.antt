use Rattle.law_copies_writes.proofs.arrivals.borrow_arrivals_keep_copies.Goals as goal
use Rattle.law_copies_writes.proofs.arrivals.BorrowArrivals.{borrows_keep}

pub returns : goal.returns
returns c = borrows_keep
