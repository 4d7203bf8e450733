use Rattle.std.proofs.Common.{ap}
use Rattle.std.specs.Prelude.{is_some}
use Rattle.mutex_home.proofs.StoreLemmas.{placed_at, ended}
use Rattle.mutex_home.proofs.store.remove_entry.Goals as goal

pub remove-requires : goal.remove-requires
remove-requires c =
    let p = placed_at c.args.store.now c.args.number c.requires.there c.key_of-key.result c.key_of-key.ensures in
    ap is_some p.entry_is

pub returns-clause-mutexes : goal.returns-clause-mutexes
returns-clause-mutexes c =
    let p = placed_at c.args.store.now c.args.number c.requires.there c.key_of-key.result c.key_of-key.ensures in
    ended c.args.store.now c.args.number p c.remove.new.self c.remove.ensures.updates.changed c.remove.ensures.updates.others
