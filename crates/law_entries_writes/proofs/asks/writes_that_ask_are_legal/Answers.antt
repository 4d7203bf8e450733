use Rattle.law_entries_writes.proofs.asks.writes_that_ask_are_legal.Goals as goal
use Rattle.law_entries_writes.proofs.asks.WriteKinds.{moves_legal, assignments_legal}

pub returns : goal.returns
returns c = record { moves = moves_legal; assignments = assignments_legal }
