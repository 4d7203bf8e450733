use Rattle.law_length_asks.proofs.answers.events_leave_asks.Goals as goal
use Rattle.law_length_asks.proofs.answers.Keeps.{events_leave}

pub returns : goal.returns
returns c = events_leave
