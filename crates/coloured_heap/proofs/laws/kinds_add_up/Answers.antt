use Rattle.coloured_heap.proofs.Sums.{kinds_add_up}
use Rattle.coloured_heap.proofs.laws.kinds_add_up.Goals as goal

pub returns : goal.returns
returns c = kinds_add_up
