use Rattle.law_counts_limits.proofs.sendings.events_send_their_acts.Goals as goal
use Rattle.law_counts_limits.proofs.sendings.Events.{events_send_their_acts, events_count_messages}

pub returns : goal.returns
returns c = record { sendings = events_send_their_acts; counted = events_count_messages }
