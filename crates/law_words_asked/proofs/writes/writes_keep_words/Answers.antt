use Rattle.law_words_asked.proofs.writes.writes_keep_words.Goals as goal
use Rattle.law_words_asked.proofs.writes.Asking.{writes_that_ask}

pub returns : goal.returns
returns c = record { asks = writes_that_ask }
