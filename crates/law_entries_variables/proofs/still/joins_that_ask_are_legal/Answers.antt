use Rattle.law_entries_variables.proofs.still.joins_that_ask_are_legal.Goals as goal
use Rattle.law_entries_variables.proofs.still.Asks.{joins_legal}

pub returns : goal.returns
returns c = joins_legal
