use Rattle.code_meaning.proofs.laws.starts_left.Goals as goal
use Rattle.code_meaning.proofs.StartLeft.{starts_left}

pub returns : goal.returns
returns c = starts_left
