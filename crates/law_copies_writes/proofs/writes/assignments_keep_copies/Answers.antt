use Rattle.law_copies_writes.proofs.writes.assignments_keep_copies.Goals as goal
use Rattle.law_copies_writes.proofs.writes.Written.{assignments_keep}

pub returns : goal.returns
returns c = assignments_keep
