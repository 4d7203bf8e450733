use Rattle.law_entries_reads.proofs.locks.journals_go_on.Goals as goal
use Rattle.law_entries_reads.proofs.locks.Places.{places_go_on}

pub returns : goal.returns
returns c = places_go_on
