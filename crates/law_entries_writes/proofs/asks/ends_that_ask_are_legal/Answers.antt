use Rattle.law_entries_writes.proofs.asks.ends_that_ask_are_legal.Goals as goal
use Rattle.law_entries_writes.proofs.asks.WriteKinds.{discards_legal, drops_legal}

pub returns : goal.returns
returns c = record { discards = discards_legal; drops = drops_legal }
