use Rattle.law_words_asked.proofs.awaited.write_arrivals_keep_words.Goals as goal
use Rattle.law_words_asked.proofs.awaited.WriteArrivals.{write_arrivals_keep}

pub returns : goal.returns
returns c = record { write = write_arrivals_keep }
