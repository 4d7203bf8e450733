use Rattle.law_entries_reads.proofs.locks.places_are_legal.Goals as goal
use Rattle.law_entries_reads.proofs.locks.Places.{places_legal}

pub returns : goal.returns
returns c = places_legal
