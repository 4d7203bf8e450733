use Rattle.law_words_asked.proofs.arrivals.arrivals_are_awaited.Goals as goal
use Rattle.law_words_asked.proofs.arrivals.Awaited.{arrivals_awaited}

pub returns : goal.returns
returns c = record { awaited = arrivals_awaited }
