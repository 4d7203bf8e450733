use Rattle.law_entries_reads.proofs.served.served_entries_are_legal.Goals as goal
use Rattle.law_entries_reads.proofs.served.ServedKinds.{fetches_legal, copies_come_legal, moves_legal}

pub returns : goal.returns
returns c = record { fetches = fetches_legal; copies = copies_come_legal; moves = moves_legal }
