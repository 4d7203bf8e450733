use Rattle.server_index.proofs.LineLemmas.{empty_line}
use Rattle.server_index.proofs.line.Line.with_room.Goals as goal

pub invariant_of-result : goal.invariant_of-result
invariant_of-result g c = (empty_line c.in_ok-marks.marks c.in_ok-slots.slots.items c.args.count c.requires.few c.in_ok-marks.ensures c.in_ok-slots.ensures).0

pub returns-clause-items : goal.returns-clause-items
returns-clause-items g c = (empty_line c.in_ok-marks.marks c.in_ok-slots.slots.items c.args.count c.requires.few c.in_ok-marks.ensures c.in_ok-slots.ensures).1
