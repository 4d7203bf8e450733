use Rattle.law_runs_whole.proofs.going.runs_go_on.Goals as goal
use Rattle.law_runs_whole.proofs.going.Going.{runs_go_on}

pub returns : goal.returns
returns c = runs_go_on c.starts_are_coherent.ensures
