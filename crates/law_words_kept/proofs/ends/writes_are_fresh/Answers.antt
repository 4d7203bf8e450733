use Rattle.law_words_kept.proofs.ends.writes_are_fresh.Goals as goal
use Rattle.law_words_kept.proofs.ends.Example.{writes_apply}
use Rattle.law_words_kept.proofs.ends.Fresh.{writes_are_fresh}
use Rattle.law_words_kept.proofs.ends.Passed.{passed_follows}

pub returns-clause-fresh : goal.returns-clause-fresh
returns-clause-fresh c = writes_are_fresh

pub returns-clause-passed : goal.returns-clause-passed
returns-clause-passed c = passed_follows

pub returns-clause-applies : goal.returns-clause-applies
returns-clause-applies c = writes_apply
