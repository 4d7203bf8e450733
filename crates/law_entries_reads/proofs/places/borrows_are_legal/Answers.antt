use Rattle.law_entries_reads.proofs.places.borrows_are_legal.Goals as goal
use Rattle.law_entries_reads.proofs.places.EachKind.{borrows_legal}

pub returns : goal.returns
returns c = borrows_legal
