use Rattle.law_words_kept.proofs.ends.written_lie_there.Goals as goal
use Rattle.law_words_kept.proofs.ends.Lying.{written_lie_there, ended_lies_there}

pub returns-clause-written : goal.returns-clause-written
returns-clause-written c = written_lie_there

pub returns-clause-ended : goal.returns-clause-ended
returns-clause-ended c = ended_lies_there
