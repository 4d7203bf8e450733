use Rattle.law_results_events.proofs.writes.steps_that_write.Goals as goal
use Rattle.law_results_events.proofs.writes.Anyhow.{each_read, each_assignment}

pub returns : goal.returns
returns c = record { reads = each_read; assignments = each_assignment }
