use Rattle.law_heap_still.proofs.undone.events_without_a_step.Goals as goal
use Rattle.law_heap_still.proofs.undone.Undone.{each_undone}

pub returns : goal.returns
returns c = each_undone
