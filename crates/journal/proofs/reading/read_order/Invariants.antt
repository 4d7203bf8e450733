use Rattle.std.proofs.Common.{length, drop}
use Rattle.journal.specs.OrderText.{Leads}
use Rattle.journal.proofs.reading.read_order.Given as goal

abbrev pub invariant-lines : goal.invariant-lines
invariant-lines l = Leads l.from (drop l.from l.bytes) l.order.items l.cursor.rest.now

abbrev pub decreases-lines : goal.decreases-lines
decreases-lines l = length l.cursor.rest.now
