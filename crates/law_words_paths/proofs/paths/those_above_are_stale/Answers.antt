use Rattle.law_words_paths.proofs.paths.those_above_are_stale.Goals as goal
use Rattle.law_words_paths.proofs.paths.Contained.{above_stale}

pub returns : goal.returns
returns c = above_stale
