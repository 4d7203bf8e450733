use Rattle.law_words_asked.proofs.awaited.end_arrivals_keep_words.Goals as goal
use Rattle.law_words_asked.proofs.awaited.EndArrivals.{end_arrivals_keep}

pub returns : goal.returns
returns c = record { end = end_arrivals_keep }
