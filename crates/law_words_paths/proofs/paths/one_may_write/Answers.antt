use Rattle.law_words_paths.proofs.paths.one_may_write.Goals as goal
use Rattle.law_words_paths.proofs.paths.Sole.{sole_pointer}
use Rattle.law_words_paths.proofs.paths.Pointers.{sole_pointers}
use Rattle.law_words_paths.proofs.paths.MayWrites.{may_write_so}
use Rattle.law_words_paths.proofs.paths.Ended.{ended_may_write}

pub returns-clause-store : goal.returns-clause-store
returns-clause-store c = sole_pointer

pub returns-clause-cluster : goal.returns-clause-cluster
returns-clause-cluster c = sole_pointers

pub returns-clause-written : goal.returns-clause-written
returns-clause-written c = may_write_so

pub returns-clause-ended : goal.returns-clause-ended
returns-clause-ended c = ended_may_write
