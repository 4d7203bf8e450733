use Rattle.law_heap_steps.proofs.turns.star_steps.Goals as goal
use Rattle.law_heap_steps.proofs.turns.Clauses.{copies, shared, lent}

pub returns : goal.returns
returns c = record { copies = copies; shared = shared; lent = lent }
