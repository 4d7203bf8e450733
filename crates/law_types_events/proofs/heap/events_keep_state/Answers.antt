use Rattle.law_types_events.proofs.heap.events_keep_state.Goals as goal
use Rattle.law_types_events.proofs.heap.States.{events_keep}

pub returns : goal.returns
returns c = events_keep
