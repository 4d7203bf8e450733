use Rattle.coloured_heap.proofs.ShownTables.{object_gone}
use Rattle.coloured_heap.proofs.tables.Tables.remove_object.Goals as goal

pub returns : goal.returns
returns c s h =
    record { objects = object_gone c.args.self.now.objects c.swap_remove.new.self c.args.object.now s.living c.object_key.result c.object_key.ensures c.swap_remove.ensures.updates.0 h.objects; cached = h.cached; served = h.served; issued = h.issued; threads = h.threads; wishes = h.wishes; mutexes = h.mutexes }
