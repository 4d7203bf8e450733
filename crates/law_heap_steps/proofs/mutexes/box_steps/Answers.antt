use Rattle.law_heap_steps.proofs.mutexes.box_steps.Goals as goal
use Rattle.law_heap_steps.proofs.mutexes.Clauses.{boxes}

pub returns : goal.returns
returns c = boxes
