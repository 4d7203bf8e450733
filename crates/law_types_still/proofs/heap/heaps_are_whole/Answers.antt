use Rattle.law_types_still.proofs.heap.heaps_are_whole.Goals as goal
use Rattle.law_types_still.proofs.heap.Wholes.{heaps_are_whole}

pub returns : goal.returns
returns c = heaps_are_whole
