use Rattle.law_entries_writes.proofs.ends.journals_go_on.Goals as goal
use Rattle.law_entries_writes.proofs.ends.Goes.{drops_continue}

pub returns : goal.returns
returns c = drops_continue
