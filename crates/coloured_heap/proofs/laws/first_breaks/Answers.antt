use Rattle.coloured_heap.proofs.Journals.{goes_on, acts, stores, has_state, first}
use Rattle.coloured_heap.proofs.laws.first_breaks.Goals as goal

pub returns-clause-goes_on : goal.returns-clause-goes_on
returns-clause-goes_on c = goes_on

pub returns-clause-has_state : goal.returns-clause-has_state
returns-clause-has_state c = has_state

pub returns-clause-first : goal.returns-clause-first
returns-clause-first c = first

pub returns-clause-acts : goal.returns-clause-acts
returns-clause-acts c = acts

pub returns-clause-stores : goal.returns-clause-stores
returns-clause-stores c = stores
