use Rattle.law_runs_rounds.proofs.rounds.rounds_grow.Goals as goal
use Rattle.law_runs_rounds.proofs.rounds.Ends.{rounds_grow}

pub returns : goal.returns
returns c = rounds_grow c.going_goes_on.ensures.can
