use Rattle.law_types_events.proofs.heap.events_keep_names.Goals as goal
use Rattle.law_types_events.proofs.heap.States.{events_keep_names}

pub returns : goal.returns
returns c = events_keep_names
