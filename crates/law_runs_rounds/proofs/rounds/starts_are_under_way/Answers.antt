use Rattle.law_runs_rounds.proofs.rounds.starts_are_under_way.Goals as goal
use Rattle.law_runs_rounds.proofs.rounds.Ends.{starts_under_way}

pub returns : goal.returns
returns c = starts_under_way c.starts_are_coherent.ensures
