use Rattle.law_counts_limits.proofs.limits.events_send_few.Goals as goal
use Rattle.law_counts_limits.proofs.limits.Events.{events_send_few}

pub returns : goal.returns
returns c = events_send_few
