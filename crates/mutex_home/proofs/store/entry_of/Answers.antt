use Rattle.std.proofs.Common.{◌≡◌, None, Some, sym, ap, ◌∙◌}
use Rattle.slab.specs.Slab.{get}
use Rattle.mutex_home.specs.Stores.{mutex_of}
use Rattle.mutex_home.proofs.StoreLemmas.{placed_at, same_entry}
use Rattle.mutex_home.proofs.store.entry_of.Goals as goal

pub unreachable-requires : goal.unreachable-requires
unreachable-requires c =
    let p = placed_at c.args.store.now c.args.number c.requires.there c.key_of.result c.key_of.ensures in
    let none : None ≡ get c.args.store.now.entries c.key_of.result = c.in-None.ensures in
    let some = p.entry_is in
    absurd cc

pub returns : goal.returns
returns c =
    let p = placed_at c.args.store.now c.args.number c.requires.there c.key_of.result c.key_of.ensures in
    p.mutex_is ∙ ap (λ e. Some (mutex_of c.args.number c.args.store.now.waits.lists e)) (sym (same_entry c.in-Some.ensures p.entry_is))
