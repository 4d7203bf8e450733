use Rattle.law_runs_whole.proofs.ends.finished_is_empty.Goals as goal
use Rattle.law_runs_whole.proofs.ends.Left.{finished_is_empty}

pub returns : goal.returns
returns c = finished_is_empty
