use Rattle.law_heap_steps.proofs.mutexes.new_mutex_steps.Goals as goal
use Rattle.law_heap_steps.proofs.mutexes.Clauses.{news}

pub returns : goal.returns
returns c = news
