use Rattle.std.proofs.Common.{ap}
use Rattle.coloured_heap.specs.Heap.{Copied, value_of}
use Rattle.coloured_heap.proofs.ShownTables.{served_more}
use Rattle.coloured_heap.proofs.tables.Tables.serve.Goals as goal

pub returns : goal.returns
returns c s h =
    let copy : Copied = record { server = c.args.there; word = c.args.word; object = c.args.object.now; value = value_of s c.args.object.now } in
    record { objects = h.objects; cached = h.cached; served = served_more c.args.self.now.served.counts c.add.new.self.counts (c.object_key.result, c.args.word, c.args.there) s.served h.served copy (ap (λ k. (k, c.args.word, c.args.there)) c.object_key.ensures) c.in_ok-add.ensures; issued = h.issued; threads = h.threads; wishes = h.wishes; mutexes = h.mutexes }
