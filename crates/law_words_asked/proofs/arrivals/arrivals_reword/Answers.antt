use Rattle.law_words_asked.proofs.arrivals.arrivals_reword.Goals as goal
use Rattle.law_words_asked.proofs.arrivals.Arrived.{arrivals_reword}

pub returns : goal.returns
returns c = record { arrivals = arrivals_reword }
