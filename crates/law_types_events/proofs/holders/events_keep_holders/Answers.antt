use Rattle.law_types_events.proofs.holders.events_keep_holders.Goals as goal
use Rattle.law_types_events.proofs.holders.Each.{events_keep_holders}

pub returns : goal.returns
returns c = events_keep_holders
