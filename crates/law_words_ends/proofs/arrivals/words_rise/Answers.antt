use Rattle.law_words_ends.proofs.arrivals.words_rise.Goals as goal
use Rattle.law_words_ends.proofs.arrivals.Each.{words_rise}

pub returns : goal.returns
returns c = words_rise
