use Rattle.law_types_events.proofs.sorts.events_keep_sorts.Goals as goal
use Rattle.law_types_events.proofs.sorts.Each.{events_keep_sorts}

pub returns : goal.returns
returns c = events_keep_sorts
