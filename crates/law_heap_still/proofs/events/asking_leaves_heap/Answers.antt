use Rattle.law_heap_still.proofs.events.asking_leaves_heap.Goals as goal
use Rattle.law_heap_still.proofs.events.Asking.{joins_that_ask}

pub returns : goal.returns
returns c = joins_that_ask
