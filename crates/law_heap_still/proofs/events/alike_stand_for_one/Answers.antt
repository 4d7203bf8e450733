use Rattle.law_heap_still.proofs.events.alike_stand_for_one.Goals as goal
use Rattle.law_heap_still.proofs.events.Alike.{counts_same_heap}
use Rattle.law_heap_still.proofs.events.Once.{shown_once}

pub returns : goal.returns
returns c = λ k d sound code alike. counts_same_heap k d code (shown_once k sound) alike
