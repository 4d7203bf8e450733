use Rattle.law_entries_reads.proofs.locks.boxes_take_next_words.Goals as goal
use Rattle.law_entries_reads.proofs.locks.NextWords.{boxes_take}

pub returns : goal.returns
returns c = boxes_take
