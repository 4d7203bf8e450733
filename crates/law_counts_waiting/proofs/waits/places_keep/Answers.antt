use Rattle.law_counts_waiting.proofs.waits.places_keep.Goals as goal
use Rattle.law_counts_waiting.proofs.waits.Stay.{others_leave, undone_leave}

pub returns : goal.returns
returns c = record { others = others_leave; undone = undone_leave }
