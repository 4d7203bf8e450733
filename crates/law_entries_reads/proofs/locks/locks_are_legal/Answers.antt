use Rattle.law_entries_reads.proofs.locks.locks_are_legal.Goals as goal
use Rattle.law_entries_reads.proofs.locks.Locks.{locks_legal}

pub returns : goal.returns
returns c = locks_legal
