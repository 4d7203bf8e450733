use Rattle.coloured_heap.proofs.ShownTables.{copy_gone}
use Rattle.coloured_heap.proofs.tables.Tables.evict.Goals as goal

pub returns : goal.returns
returns c s h =
    record { objects = h.objects; cached = copy_gone c.args.self.now.cached c.swap_remove.new.self s.cached h.cached c.args.here c.args.word c.swap_remove.ensures.updates.0; served = h.served; issued = h.issued; threads = h.threads; wishes = h.wishes; mutexes = h.mutexes }
