use Rattle.law_heap_still.proofs.events.requests_leave_heap.Goals as goal
use Rattle.law_heap_still.proofs.events.Undone.{requests_leave}

pub returns : goal.returns
returns c = requests_leave
