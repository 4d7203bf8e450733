use Rattle.law_words_ends.proofs.stars.discards_keep_words.Goals as goal
use Rattle.law_words_ends.proofs.stars.Each.{discards_keep_words}

pub returns : goal.returns
returns c = discards_keep_words
