use Rattle.law_copies_writes.proofs.writes.moves_keep_copies.Goals as goal
use Rattle.law_copies_writes.proofs.writes.Written.{moves_keep}

pub returns : goal.returns
returns c = moves_keep
