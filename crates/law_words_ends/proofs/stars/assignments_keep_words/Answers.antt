use Rattle.law_words_ends.proofs.stars.assignments_keep_words.Goals as goal
use Rattle.law_words_ends.proofs.stars.Each.{assignments_keep_words}

pub returns : goal.returns
returns c = assignments_keep_words
