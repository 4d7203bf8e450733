use Rattle.law_length_runs.proofs.worth.events_spend.Goals as goal
use Rattle.law_length_runs.proofs.worth.Events.{events_spend}

pub returns : goal.returns
returns c = events_spend
