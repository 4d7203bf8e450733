use Rattle.law_counts_waiting.proofs.waits.takers_keep.Goals as goal
use Rattle.law_counts_waiting.proofs.waits.Takers.{takers_lend}
use Rattle.law_counts_waiting.proofs.waits.Steady.{stands_steady, new_steady}

pub returns : goal.returns
returns c = record { lend = takers_lend; taken_stands = stands_steady; taken_is_new = new_steady }
