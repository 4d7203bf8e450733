use Rattle.law_words_ends.proofs.variables.flat_ends_keep.Goals as goal
use Rattle.law_words_ends.proofs.variables.DirtyEnds.{flat_ends_keep}

pub returns : goal.returns
returns c = flat_ends_keep
