use Rattle.law_heap_writes.proofs.drops.drop_steps.Goals as goal
use Rattle.law_heap_writes.proofs.drops.Clauses.{discards, drops, assigns}

pub returns : goal.returns
returns c = record { discards = discards; drops = drops; assigns = assigns }
