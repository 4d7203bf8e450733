use Rattle.law_copies_kept.proofs.copies.carried_values_leave_copies.Goals as goal
use Rattle.law_copies_kept.proofs.copies.KeptCopies.{carried_copies, discarded_copies, dropped_copies, assigned_copies}

pub returns : goal.returns
returns c = record { carried = carried_copies; discards = discarded_copies; drops = dropped_copies; assigns = assigned_copies }
