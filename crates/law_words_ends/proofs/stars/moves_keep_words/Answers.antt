use Rattle.law_words_ends.proofs.stars.moves_keep_words.Goals as goal
use Rattle.law_words_ends.proofs.stars.Each.{moves_keep_words}

pub returns : goal.returns
returns c = moves_keep_words
