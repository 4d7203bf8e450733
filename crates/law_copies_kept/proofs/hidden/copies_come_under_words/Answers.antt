use Rattle.law_copies_kept.proofs.hidden.copies_come_under_words.Goals as goal
use Rattle.law_copies_kept.proofs.hidden.Under.{come_under}

pub returns : goal.returns
returns c = come_under
