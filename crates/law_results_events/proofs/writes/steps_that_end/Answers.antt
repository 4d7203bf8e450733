use Rattle.law_results_events.proofs.writes.steps_that_end.Goals as goal
use Rattle.law_results_events.proofs.writes.Anyhow.{each_discard, each_drop}

pub returns : goal.returns
returns c = record { discards = each_discard; drops = each_drop }
