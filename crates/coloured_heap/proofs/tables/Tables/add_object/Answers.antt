use Rattle.std.proofs.Common.{false}
use Rattle.coloured_heap.specs.Heap.{Lies, Living}
use Rattle.coloured_heap.proofs.ShownTables.{object_made}
use Rattle.coloured_heap.proofs.tables.Tables.add_object.Goals as goal

pub returns-in-Ok : goal.returns-in-Ok
returns-in-Ok c s v h =
    let made : Living = record { object = c.args.object.now; place = Lies c.args.here; word = c.args.word; value = v; is_condemned = false } in
    record { objects = object_made c.args.self.now.objects c.insert.new.self made s.living c.object_key.result c.object_key.ensures c.in-Ok.ensures.updates.0 h.objects; cached = h.cached; served = h.served; issued = h.issued; threads = h.threads; wishes = h.wishes; mutexes = h.mutexes }
