use Rattle.journal.proofs.OneReading.{one_lines, one_fault, never_both, either}
use Rattle.journal.proofs.laws.one_order.Goals as goal

pub returns : goal.returns
returns c = record { lines = one_lines; fault = one_fault; never_both = never_both; either = either }
