use Rattle.law_results_reads.proofs.laws.steps_that_borrow.Goals as goal
use Rattle.law_results_reads.proofs.Borrowing.{borrows_have_results}
use Rattle.law_results_reads.proofs.Lending.{mutable_borrows_have_results}

pub returns : goal.returns
returns c = record { shared = borrows_have_results; mutable = mutable_borrows_have_results }
