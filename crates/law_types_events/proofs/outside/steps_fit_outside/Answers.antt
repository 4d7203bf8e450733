use Rattle.law_types_events.proofs.outside.steps_fit_outside.Goals as goal
use Rattle.law_types_events.proofs.outside.Outside.{steps_fit_outside, steps_agree}

pub returns : goal.returns
returns c = record { outside = steps_fit_outside; all = steps_agree }
