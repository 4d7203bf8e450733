use Rattle.law_runs_coherent.proofs.events.events_stand_once.Goals as goal
use Rattle.law_runs_coherent.proofs.events.Once.{stand_once}

pub returns : goal.returns
returns c = stand_once c.parts_keep.ensures.parts_are_typed
