use Rattle.law_words_paths.proofs.paths.written_are_fresh.Goals as goal
use Rattle.law_words_paths.proofs.paths.FreshPaths.{written_are_fresh, written_are_apart}

pub returns-clause-fresh : goal.returns-clause-fresh
returns-clause-fresh c = written_are_fresh

pub returns-clause-apart : goal.returns-clause-apart
returns-clause-apart c = written_are_apart
