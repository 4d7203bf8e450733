use Rattle.law_entries_writes.proofs.ends.drops_are_legal.Goals as goal
use Rattle.law_entries_writes.proofs.ends.Goes.{drops_legal}

pub returns : goal.returns
returns c = drops_legal
