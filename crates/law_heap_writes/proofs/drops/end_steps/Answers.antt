use Rattle.law_heap_writes.proofs.drops.end_steps.Goals as goal
use Rattle.law_heap_writes.proofs.drops.EndGone.{ends_of_free}

pub returns : goal.returns
returns c = ends_of_free
