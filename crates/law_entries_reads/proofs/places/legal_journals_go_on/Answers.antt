use Rattle.law_entries_reads.proofs.places.legal_journals_go_on.Goals as goal
use Rattle.law_entries_reads.proofs.places.EachKind.{goes_further}

pub returns : goal.returns
returns c = goes_further
