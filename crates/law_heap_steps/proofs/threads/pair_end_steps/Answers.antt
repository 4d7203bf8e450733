use Rattle.law_heap_steps.proofs.threads.pair_end_steps.Goals as goal
use Rattle.law_heap_steps.proofs.threads.PairLines.{pair_ends}

pub returns : goal.returns
returns c = pair_ends
