use Rattle.law_results_events.proofs.writes.moved_arrive.Goals as goal
use Rattle.law_results_events.proofs.writes.Moved.{each_moved}

pub returns : goal.returns
returns c = each_moved
