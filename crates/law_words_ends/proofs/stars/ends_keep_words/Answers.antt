use Rattle.law_words_ends.proofs.stars.ends_keep_words.Goals as goal
use Rattle.law_words_ends.proofs.stars.Ends.{ends_keep_words}

pub returns : goal.returns
returns c = ends_keep_words
