use Rattle.law_plain_values.proofs.slots.slot_acts_keep_types.Goals as goal
use Rattle.law_plain_values.proofs.slots.Moves.{move_keeps}
use Rattle.law_plain_values.proofs.slots.Boxes.{box_keeps}

pub returns-clause-take : goal.returns-clause-take
returns-clause-take c = move_keeps

pub returns-clause-wrap : goal.returns-clause-wrap
returns-clause-wrap c = box_keeps
