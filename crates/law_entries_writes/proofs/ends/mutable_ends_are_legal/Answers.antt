use Rattle.law_entries_writes.proofs.ends.mutable_ends_are_legal.Goals as goal
use Rattle.law_entries_writes.proofs.ends.Goes.{mutable_ends_legal}

pub returns : goal.returns
returns c = mutable_ends_legal
