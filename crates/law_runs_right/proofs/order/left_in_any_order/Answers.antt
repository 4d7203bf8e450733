use Rattle.law_runs_right.proofs.order.left_in_any_order.Goals as goal
use Rattle.law_runs_right.proofs.order.Runs.{left_in_any_order}

pub returns : goal.returns
returns c = left_in_any_order
