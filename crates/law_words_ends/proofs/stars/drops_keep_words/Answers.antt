use Rattle.law_words_ends.proofs.stars.drops_keep_words.Goals as goal
use Rattle.law_words_ends.proofs.stars.Each.{drops_keep_words}

pub returns : goal.returns
returns c = drops_keep_words
