use Rattle.law_heap_writes.proofs.drops.unlock_steps.Goals as goal
use Rattle.law_heap_writes.proofs.drops.UnlockGone.{unlocks_of_gone}

pub returns : goal.returns
returns c = unlocks_of_gone
