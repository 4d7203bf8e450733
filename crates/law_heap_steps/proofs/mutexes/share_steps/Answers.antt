use Rattle.law_heap_steps.proofs.mutexes.share_steps.Goals as goal
use Rattle.law_heap_steps.proofs.mutexes.ShareLines.{shares_go}

pub returns : goal.returns
returns c = shares_go
