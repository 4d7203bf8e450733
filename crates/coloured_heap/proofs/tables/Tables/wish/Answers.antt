use Rattle.coloured_heap.proofs.ShownTables.{wished_more}
use Rattle.coloured_heap.proofs.tables.Tables.wish.Goals as goal

pub returns : goal.returns
returns c s h =
    record { objects = h.objects; cached = h.cached; served = h.served; issued = h.issued; threads = h.threads; wishes = wished_more c.args.self.now.wishes.counts c.add.new.self.counts c.args.wish s.wishes h.wishes c.in_ok-add.ensures; mutexes = h.mutexes }
