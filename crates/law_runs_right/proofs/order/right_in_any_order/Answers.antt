use Rattle.law_runs_right.proofs.order.right_in_any_order.Goals as goal
use Rattle.law_runs_right.proofs.order.Runs.{right_in_any_order}

pub returns : goal.returns
returns c = right_in_any_order
