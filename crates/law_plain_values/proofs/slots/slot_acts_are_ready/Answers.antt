use Rattle.law_plain_values.proofs.slots.slot_acts_are_ready.Goals as goal
use Rattle.law_plain_values.proofs.slots.Example.{box_is_ready, move_is_ready}

pub returns-clause-wrap : goal.returns-clause-wrap
returns-clause-wrap c = box_is_ready

pub returns-clause-take : goal.returns-clause-take
returns-clause-take c = move_is_ready
