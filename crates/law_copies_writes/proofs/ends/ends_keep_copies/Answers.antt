use Rattle.law_copies_writes.proofs.ends.ends_keep_copies.Goals as goal
use Rattle.law_copies_writes.proofs.ends.Ends.{ends_keep}

pub returns : goal.returns
returns c = ends_keep
