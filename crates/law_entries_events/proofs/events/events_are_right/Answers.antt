use Rattle.law_entries_events.proofs.events.events_are_right.Goals as goal
use Rattle.law_entries_events.proofs.Below.law_counts_limits.sendings.Events.{events_count_messages}

pub returns : goal.returns
returns c = record { keeps = c.events_keep_coherence.ensures; leads = c.entries_lead.ensures; counts = λ k e co few. events_count_messages k e co.sound few }
