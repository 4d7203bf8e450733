use Rattle.law_words_asked.proofs.awaited.borrow_arrivals_keep_words.Goals as goal
use Rattle.law_words_asked.proofs.awaited.BorrowArrivals.{borrow_arrivals_keep}
use Rattle.law_words_asked.proofs.awaited.TakingUp.{taking_keeps}

pub returns : goal.returns
returns c = record { taking = taking_keeps; borrow = borrow_arrivals_keep }
