use Rattle.law_words_ends.proofs.arrivals.arrivals_keep_words.Goals as goal
use Rattle.law_words_ends.proofs.arrivals.Regained.{ends_regain}
use Rattle.law_words_ends.proofs.arrivals.Arrivals.{arrivals_keep}

pub returns : goal.returns
returns c = record { ends = ends_regain; each = arrivals_keep }
