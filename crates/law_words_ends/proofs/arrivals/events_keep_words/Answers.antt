use Rattle.law_words_ends.proofs.arrivals.events_keep_words.Goals as goal
use Rattle.law_words_ends.proofs.arrivals.Each.{events_keep_words}

pub returns : goal.returns
returns c = events_keep_words
