use Rattle.law_words_kept.proofs.reads.reads_find.Goals as goal
use Rattle.law_words_kept.proofs.reads.ReadPlaces.{may_read_so}
use Rattle.law_words_kept.proofs.reads.FreshReads.{read_are_fresh}
use Rattle.law_words_kept.proofs.reads.Homes.{read_lie_there}

pub returns-clause-readable : goal.returns-clause-readable
returns-clause-readable c = may_read_so

pub returns-clause-fresh : goal.returns-clause-fresh
returns-clause-fresh c = read_are_fresh

pub returns-clause-there : goal.returns-clause-there
returns-clause-there c = read_lie_there
