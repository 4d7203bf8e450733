use Rattle.std.proofs.Common.{rules, sym}
use Rattle.coloured_heap.proofs.ShownTables.{holder_changed, holder_left}
use Rattle.coloured_heap.proofs.tables.Tables.set_holder.Goals as goal

pub returns-in-Some : goal.returns-in-Some
returns-in-Some c s h =
    record { objects = h.objects; cached = h.cached; served = h.served; issued = h.issued; threads = h.threads; wishes = h.wishes; mutexes = holder_changed c.args.self.now.mutexes (c.get_mut.follows.lender c.args.holder) c.args.mutex.now c.in-Some.found.now c.args.holder s.mutexes c.mutex_key.result c.mutex_key.ensures (sym c.in-Some.ensures.value) ((c.get_mut.follows.holds c.args.holder).3 (search rules)).0 h.mutexes }

pub returns-in_default : goal.returns-in_default
returns-in_default c s h =
    rw c.get_mut.follows.holds-at-none (record { objects = h.objects; cached = h.cached; served = h.served; issued = h.issued; threads = h.threads; wishes = h.wishes; mutexes = holder_left c.args.self.now.mutexes c.args.self.now.mutexes c.args.mutex.now c.args.holder s.mutexes c.mutex_key.result c.mutex_key.ensures (sym c.in_default.ensures.value) h.mutexes })
