use Rattle.law_heap_steps.proofs.mutexes.unlock_steps.Goals as goal
use Rattle.law_heap_steps.proofs.mutexes.Clauses.{unlocks}

pub returns : goal.returns
returns c = unlocks
