use Rattle.std.proofs.Common.{sym}
use Rattle.read_cache.proofs.SlotLemmas.{stands, absent, found_key}
use Rattle.read_cache.proofs.cache.find.Goals as goal

pub returns-in-Some-clause-there : goal.returns-in-Some-clause-there
returns-in-Some-clause-there c =
    let key = found_key c.args.slots.now.entries c.args.word c.in-Some.field-0-1.now c.in-Some.ensures.key in
    stands c.args.slots.now.entries c.in-Some.at c.args.word c.in-Some.slot.now c.len-len.ensures.unique (rw key at c.in-Some.ensures.entry)

pub returns-in-None-clause-absent : goal.returns-in-None-clause-absent
returns-in-None-clause-absent c = absent c.args.slots.now.entries c.args.word (sym c.in-None.ensures.value)
