use Rattle.coloured_heap.proofs.Same.{equivalence}
use Rattle.coloured_heap.proofs.SameJournals as journals
use Rattle.coloured_heap.proofs.laws.same_states.Goals as goal

pub returns-clause-equivalence : goal.returns-clause-equivalence
returns-clause-equivalence c = equivalence

pub returns-clause-common : goal.returns-clause-common
returns-clause-common c = journals.same_states
