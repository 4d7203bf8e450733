use Rattle.law_plain_values.proofs.drops.drops_are_ready.Goals as goal
use Rattle.law_plain_values.proofs.drops.Example.{drop_is_ready, discard_is_ready, end_is_ready, slot_is_ready, assign_is_ready}

pub returns-clause-keeps : goal.returns-clause-keeps
returns-clause-keeps c = drop_is_ready

pub returns-clause-discard : goal.returns-clause-discard
returns-clause-discard c = discard_is_ready

pub returns-clause-end : goal.returns-clause-end
returns-clause-end c = end_is_ready

pub returns-clause-slot : goal.returns-clause-slot
returns-clause-slot c = slot_is_ready

pub returns-clause-assign : goal.returns-clause-assign
returns-clause-assign c = assign_is_ready
