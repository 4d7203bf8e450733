use Rattle.std.proofs.Common.{rules, sym}
use Rattle.coloured_heap.proofs.ShownTables.{object_changed, object_left}
use Rattle.coloured_heap.proofs.tables.Tables.change_object.Goals as goal

pub returns-in-Some : goal.returns-in-Some
returns-in-Some c s h =
    record { objects = object_changed c.args.self.now.objects (c.get_mut.follows.lender c.changed.result) c.args.object.now c.args.by c.in-Some.found.now c.changed.result s.living c.object_key.result c.object_key.ensures c.changed.ensures (sym c.in-Some.ensures.value) ((c.get_mut.follows.holds c.changed.result).3 (search rules)).0 h.objects; cached = h.cached; served = h.served; issued = h.issued; threads = h.threads; wishes = h.wishes; mutexes = h.mutexes }

pub returns-in_default : goal.returns-in_default
returns-in_default c s h =
    rw c.get_mut.follows.holds-at-none (record { objects = object_left c.args.self.now.objects c.args.self.now.objects c.args.object.now c.args.by s.living c.object_key.result c.object_key.ensures (sym c.in_default.ensures.value) h.objects; cached = h.cached; served = h.served; issued = h.issued; threads = h.threads; wishes = h.wishes; mutexes = h.mutexes })
