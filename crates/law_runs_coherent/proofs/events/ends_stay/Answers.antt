use Rattle.law_runs_coherent.proofs.events.ends_stay.Goals as goal
use Rattle.law_runs_coherent.proofs.events.Ends.{ends_stay}

pub returns : goal.returns
returns c = ends_stay
