use Rattle.law_length_runs.proofs.short.asks_left.Goals as goal
use Rattle.law_length_runs.proofs.short.Runs.{twenty_left}

pub returns : goal.returns
returns c = twenty_left c.asks_are_few.ensures c.asks_take_one.ensures c.events_leave_asks.ensures
