use Rattle.std.proofs.Common.{ap, sym, ◌∙◌}
use Rattle.coloured_heap.proofs.ShownTables.{cached_kept, copy_filled, served_kept, served_less}
use Rattle.coloured_heap.proofs.tables.Tables.fill.Goals as goal

pub returns-then-not-is_served : goal.returns-then-not-is_served
returns-then-not-is_served c s h =
    let none = sym c.if-not-is_served.true ∙ c.is_served.ensures s h in
    record { objects = h.objects; cached = cached_kept c.args.object.now c.args.word c.args.here s.served none c.args.self.now.cached s.cached h.cached; served = served_kept c.args.object.now c.args.word c.args.here s.served none c.args.self.now.served.counts h.served; issued = h.issued; threads = h.threads; wishes = h.wishes; mutexes = h.mutexes }

pub returns : goal.returns
returns c s h =
    let some = sym c.if-not-is_served.false ∙ c.is_served.ensures s h in
    record { objects = h.objects; cached = copy_filled c.args.self.now.cached c.insert.new.self s.cached h.cached c.args.object.now c.args.word c.args.here s.served some c.in-Ok.ensures.updates.0; served = served_less c.args.self.now.served.counts c.take.new.self.counts (c.object_key.result, c.args.word, c.args.here) s.served h.served c.args.object.now c.args.word c.args.here some (ap (λ k. (k, c.args.word, c.args.here)) c.object_key.ensures) c.take.ensures; issued = h.issued; threads = h.threads; wishes = h.wishes; mutexes = h.mutexes }
