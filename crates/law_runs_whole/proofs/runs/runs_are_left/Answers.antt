use Rattle.law_runs_whole.proofs.runs.runs_are_left.Goals as goal
use Rattle.law_runs_whole.proofs.runs.Colouring.{runs_are_left}

pub returns : goal.returns
returns c = runs_are_left c.starts_are_coherent.ensures
