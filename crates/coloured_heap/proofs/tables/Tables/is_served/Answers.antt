use Rattle.std.proofs.Common.{sym, ap, ◌∙◌, nat_lt}
use Rattle.coloured_heap.specs.Heap.{is_copy}
use Rattle.coloured_heap.proofs.Shown.{is_served}
use Rattle.coloured_heap.proofs.tables.Tables.is_served.Goals as goal

pub returns : goal.returns
returns c s h = ap (nat_lt 0) ((rw c.object_key.ensures at c.count.ensures) ∙ h.served c.args.object.now c.args.word c.args.here) ∙ sym (is_served (is_copy c.args.object.now c.args.word c.args.here) s.served)
