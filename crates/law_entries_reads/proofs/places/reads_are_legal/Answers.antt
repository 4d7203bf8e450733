use Rattle.law_entries_reads.proofs.places.reads_are_legal.Goals as goal
use Rattle.law_entries_reads.proofs.places.EachKind.{reads_legal}

pub returns : goal.returns
returns c = reads_legal
