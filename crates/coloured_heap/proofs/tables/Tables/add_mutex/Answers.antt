use Rattle.std.proofs.Common.{None}
use Rattle.coloured_heap.specs.Heap.{Guarded}
use Rattle.coloured_heap.proofs.ShownTables.{mutex_made}
use Rattle.coloured_heap.proofs.tables.Tables.add_mutex.Goals as goal

pub returns-in-Ok : goal.returns-in-Ok
returns-in-Ok c s h =
    let made : Guarded = record { mutex = c.args.mutex.now; holder = None } in
    record { objects = h.objects; cached = h.cached; served = h.served; issued = h.issued; threads = h.threads; wishes = h.wishes; mutexes = mutex_made c.args.self.now.mutexes c.insert.new.self made s.mutexes c.mutex_key.result c.mutex_key.ensures c.in-Ok.ensures.updates.0 h.mutexes }
