use Rattle.law_heap_writes.proofs.drops.whole_steps.Goals as goal
use Rattle.law_heap_writes.proofs.drops.UnlockWhole.{unlocks_plain}
use Rattle.law_heap_writes.proofs.drops.EndWhole.{ends_plain}

pub returns : goal.returns
returns c = record { unlocks = unlocks_plain; ends = ends_plain }
