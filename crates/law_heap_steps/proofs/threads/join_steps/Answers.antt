use Rattle.law_heap_steps.proofs.threads.join_steps.Goals as goal
use Rattle.law_heap_steps.proofs.threads.JoinLines.{joins}

pub returns : goal.returns
returns c = joins
