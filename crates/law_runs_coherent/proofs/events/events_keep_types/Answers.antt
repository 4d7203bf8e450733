use Rattle.law_runs_coherent.proofs.events.events_keep_types.Goals as goal
use Rattle.law_runs_coherent.proofs.events.Each.{keep_types}

pub returns : goal.returns
returns c = keep_types c.events_stand_once.ensures
