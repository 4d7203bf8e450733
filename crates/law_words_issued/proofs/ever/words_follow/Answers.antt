use Rattle.law_words_issued.proofs.ever.words_follow.Goals as goal
use Rattle.law_words_issued.proofs.ever.Standing.{issued_follows}

pub returns : goal.returns
returns c = issued_follows
