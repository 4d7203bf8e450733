use Rattle.fr_code.proofs.laws.runs_alike.Goals as goal
use Rattle.fr_code.proofs.Wholes.{starts_alike, runs_alike}

pub returns-clause-starts : goal.returns-clause-starts
returns-clause-starts c = starts_alike

pub returns-clause-runs : goal.returns-clause-runs
returns-clause-runs c = runs_alike
