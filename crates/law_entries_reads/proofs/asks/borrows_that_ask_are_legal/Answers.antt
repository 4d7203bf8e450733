use Rattle.law_entries_reads.proofs.asks.borrows_that_ask_are_legal.Goals as goal
use Rattle.law_entries_reads.proofs.asks.BorrowKinds.{shared_legal, mutable_legal}

pub returns : goal.returns
returns c = record { shared = shared_legal; mutable = mutable_legal }
