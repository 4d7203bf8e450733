use Rattle.law_entries_reads.proofs.asks.reads_that_ask_are_legal.Goals as goal
use Rattle.law_entries_reads.proofs.asks.ReadKinds.{reads_legal}

pub returns : goal.returns
returns c = reads_legal
