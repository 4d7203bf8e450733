use Rattle.coherent_memory.proofs.laws.words_are_told.Goals as goal
use Rattle.coherent_memory.proofs.Words.{words_law}
use Rattle.coherent_memory.proofs.Dirty.{dirty_law}
use Rattle.coherent_memory.proofs.Past.{past_law}

pub returns-clause-words : goal.returns-clause-words
returns-clause-words c = words_law

pub returns-clause-dirty : goal.returns-clause-dirty
returns-clause-dirty c = dirty_law

pub returns-clause-past : goal.returns-clause-past
returns-clause-past c = past_law
