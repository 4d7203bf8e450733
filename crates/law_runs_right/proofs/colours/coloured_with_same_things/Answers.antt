use Rattle.law_runs_right.proofs.colours.coloured_with_same_things.Goals as goal
use Rattle.law_runs_right.proofs.colours.Coloured.{coloured_with_same_things}

pub returns : goal.returns
returns c = coloured_with_same_things
