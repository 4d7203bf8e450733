use Rattle.law_entries_writes.proofs.asks.steps_that_ask_are_legal.Goals as goal
use Rattle.law_entries_writes.proofs.asks.EachAsks.{each_step}

pub returns : goal.returns
returns c = each_step
