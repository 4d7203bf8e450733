use Rattle.std.proofs.Common.{sym, ap, ◌∙◌}
use Rattle.mutex_home.specs.Queues.{first_taken}
use Rattle.mutex_home.proofs.StoreLemmas.{placed, takes}
use Rattle.mutex_home.proofs.store.first_waiting.Goals as goal

pub returns-clause-first : goal.returns-clause-first
returns-clause-first c =
    let p = placed c.args.store.now c.args.number c.requires.there in
    takes c.args.store.now c.args.number p (c.requires.made ∙ c.args.store.now.keys.ok.0) c.take.new.self.lists c.take.result
    (ap (first_taken c.args.store.now.waits.lists) (sym c.place_of-place.ensures.place) ∙ c.take.ensures.first)
