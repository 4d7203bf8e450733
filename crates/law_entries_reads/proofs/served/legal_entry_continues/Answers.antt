use Rattle.law_entries_reads.proofs.served.legal_entry_continues.Goals as goal
use Rattle.law_entries_reads.proofs.served.Continuing.{goes_further}

pub returns : goal.returns
returns c = goes_further
