use Rattle.law_counts_sums.proofs.every.each_event_sends.Goals as goal
use Rattle.law_counts_sums.proofs.Sending.{each_event_sends}

pub returns : goal.returns
returns c = each_event_sends
