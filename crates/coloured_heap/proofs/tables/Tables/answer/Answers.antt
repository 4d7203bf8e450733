use Rattle.coloured_heap.proofs.ShownTables.{wished_less}
use Rattle.coloured_heap.proofs.tables.Tables.answer.Goals as goal

pub returns : goal.returns
returns c s h =
    record { objects = h.objects; cached = h.cached; served = h.served; issued = h.issued; threads = h.threads; wishes = wished_less c.args.self.now.wishes.counts c.take.new.self.counts c.args.wish s.wishes h.wishes c.take.ensures; mutexes = h.mutexes }
