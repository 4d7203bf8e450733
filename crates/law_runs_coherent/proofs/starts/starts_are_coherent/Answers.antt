use Rattle.law_runs_coherent.proofs.starts.starts_are_coherent.Goals as goal
use Rattle.law_runs_coherent.proofs.starts.Starts.{starts_are_coherent}

pub returns : goal.returns
returns c = starts_are_coherent c.starts_have_types.ensures
