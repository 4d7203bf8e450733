use Rattle.law_words_issued.proofs.ever.arrivals_leave_issued.Goals as goal
use Rattle.law_words_issued.proofs.ever.Arrivals.{arrivals_keep_issued}

pub returns : goal.returns
returns c = arrivals_keep_issued
