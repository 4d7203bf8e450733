use Rattle.law_plain_values.proofs.drops.dropping_acts_keep_types.Goals as goal
use Rattle.law_plain_values.proofs.drops.Discards.{discard_keeps}
use Rattle.law_plain_values.proofs.drops.SlotDrops.{drop_slot_keeps}
use Rattle.law_plain_values.proofs.drops.Ends.{end_keeps}
use Rattle.law_plain_values.proofs.drops.References.{assign_keeps}

pub returns-clause-discard : goal.returns-clause-discard
returns-clause-discard c = discard_keeps

pub returns-clause-end : goal.returns-clause-end
returns-clause-end c = end_keeps

pub returns-clause-slot : goal.returns-clause-slot
returns-clause-slot c = drop_slot_keeps

pub returns-clause-assign : goal.returns-clause-assign
returns-clause-assign c = assign_keeps
