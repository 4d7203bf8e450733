use Rattle.law_words_paths.proofs.words.soles_stay.Goals as goal
use Rattle.law_words_paths.proofs.words.Alone.{written_are_sole}
use Rattle.law_words_paths.proofs.words.Outlines.{soles_stay}
use Rattle.law_words_paths.proofs.words.Only.{are_only}

pub returns-clause-written : goal.returns-clause-written
returns-clause-written c = written_are_sole

pub returns-clause-steps : goal.returns-clause-steps
returns-clause-steps c = soles_stay

pub returns-clause-only : goal.returns-clause-only
returns-clause-only c = are_only
