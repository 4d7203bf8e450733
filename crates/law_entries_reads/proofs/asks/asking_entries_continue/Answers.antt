use Rattle.law_entries_reads.proofs.asks.asking_entries_continue.Goals as goal
use Rattle.law_entries_reads.proofs.asks.Continuing.{asking_continues}

pub returns : goal.returns
returns c = asking_continues
