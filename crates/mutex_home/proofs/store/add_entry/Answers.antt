use Rattle.std.proofs.Common.{◌+◌, ap, ◌∙◌}
use Rattle.mutex_home.proofs.StoreLemmas.{added}
use Rattle.mutex_home.proofs.store.add_entry.Goals as goal

pub returns-clause-mutexes : goal.returns-clause-mutexes
returns-clause-mutexes c =
    rw (c.push_reserved.ensures.items, c.add.ensures.lists)
    (added c.args.store.now c.insert_reserved-key.new.self c.insert_reserved-key.result c.args.count c.args.content (c.requires.next ∙ ap (λ n. n + 1) c.args.store.now.keys.ok.0) (c.requires.made ∙ c.args.store.now.keys.ok.0)
    c.insert_reserved-key.ensures.was_vacant c.insert_reserved-key.ensures.updates.changed c.insert_reserved-key.ensures.updates.others)
