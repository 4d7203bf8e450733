use Rattle.law_words_asked.proofs.awaited.read_arrivals_keep_words.Goals as goal
use Rattle.law_words_asked.proofs.awaited.ReadArrivals.{read_arrivals_keep}

pub returns : goal.returns
returns c = record { read = read_arrivals_keep }
