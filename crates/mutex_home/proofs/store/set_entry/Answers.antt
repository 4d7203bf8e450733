use Rattle.std.proofs.Common.{◌≡◌, None, Some, refl}
use Rattle.std.proofs.lemmas.List.{get_or-set_other}
use Rattle.slab.specs.Slab.{get, with_value}
use Rattle.mutex_home.specs.declared.parts.Entry.{Entry}
use Rattle.mutex_home.proofs.QueueLemmas.{set_here}
use Rattle.mutex_home.proofs.StoreLemmas.{placed_at, changed}
use Rattle.mutex_home.proofs.store.set_entry.Goals as goal

pub returns-in-Some-clause-mutexes : goal.returns-in-Some-clause-mutexes
returns-in-Some-clause-mutexes c =
    let p = placed_at c.args.store.now c.args.number c.requires.there c.key_of-key.result c.key_of-key.ensures in
    let new : Entry = record { count = c.args.number.count; content = c.args.content; shares = c.args.shares } in
    changed c.args.store.now c.args.number p c.args.store.now.waits.lists (with_value c.args.store.now.entries c.key_of-key.result new) new refl
    (set_here c.args.store.now.entries.slots c.key_of-key.result p.entry new p.entry_is)
    (λ other d. get_or-set_other c.args.store.now.entries.slots c.key_of-key.result other (Some new) None d)
    (λ count d. refl)

pub returns-in_default-clause-mutexes : goal.returns-in_default-clause-mutexes
returns-in_default-clause-mutexes c =
    let p = placed_at c.args.store.now c.args.number c.requires.there c.key_of-key.result c.key_of-key.ensures in
    let none : None ≡ get c.args.store.now.entries c.key_of-key.result = c.in_default.ensures.value in
    let some = p.entry_is in
    absurd cc
