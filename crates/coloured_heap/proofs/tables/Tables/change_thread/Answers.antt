use Rattle.std.proofs.Common.{rules, sym}
use Rattle.coloured_heap.proofs.ShownTables.{thread_changed, thread_left}
use Rattle.coloured_heap.proofs.tables.Tables.change_thread.Goals as goal

pub returns-in-Some : goal.returns-in-Some
returns-in-Some c s h =
    record { objects = h.objects; cached = h.cached; served = h.served; issued = h.issued; threads = thread_changed c.args.self.now.threads (c.get_mut.follows.lender c.changed.result) c.args.thread c.args.by c.in-Some.found.now c.changed.result s.threads c.changed.ensures (rw c.number.ensures.number at (sym c.in-Some.ensures.value)) (rw c.number.ensures.number at ((c.get_mut.follows.holds c.changed.result).3 (search rules)).0) h.threads; wishes = h.wishes; mutexes = h.mutexes }

pub returns-in_default : goal.returns-in_default
returns-in_default c s h =
    rw c.get_mut.follows.holds-at-none (record { objects = h.objects; cached = h.cached; served = h.served; issued = h.issued; threads = thread_left c.args.self.now.threads c.args.self.now.threads c.args.thread c.args.by s.threads (rw c.number.ensures.number at (sym c.in_default.ensures.value)) h.threads; wishes = h.wishes; mutexes = h.mutexes })
