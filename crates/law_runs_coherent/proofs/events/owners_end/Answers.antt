use Rattle.law_runs_coherent.proofs.events.owners_end.Goals as goal
use Rattle.law_runs_coherent.proofs.events.Owning.{agreeing_end, events_that_agree_end}

pub returns : goal.returns
returns c = record { agreeing = agreeing_end; events = events_that_agree_end }
