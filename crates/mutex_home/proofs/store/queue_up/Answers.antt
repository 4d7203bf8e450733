use Rattle.std.proofs.Common.{◌∙◌}
use Rattle.mutex_home.proofs.StoreLemmas.{placed, queues}
use Rattle.mutex_home.proofs.store.queue_up.Goals as goal

pub returns-clause-mutexes : goal.returns-clause-mutexes
returns-clause-mutexes c =
    let p = placed c.args.store.now c.args.number c.requires.there in
    rw (c.push.ensures.lists, c.place_of-place.ensures.place) (queues c.args.store.now c.args.number p c.args.server c.args.thread (c.requires.made ∙ c.args.store.now.keys.ok.0))
