use Rattle.law_runs_order.proofs.types.one_heap_with_same_things.Goals as goal
use Rattle.law_runs_order.proofs.types.Coherent.{one_heap_with_same_things}

pub returns : goal.returns
returns c = one_heap_with_same_things
