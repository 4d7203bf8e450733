use Rattle.law_runs_coherent.proofs.events.events_keep_copies.Goals as goal
use Rattle.law_runs_coherent.proofs.events.Copies.{events_keep_copies}

pub returns : goal.returns
returns c = events_keep_copies
