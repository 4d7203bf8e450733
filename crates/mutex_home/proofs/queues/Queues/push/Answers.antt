use Rattle.std.proofs.Common.{◌+◌, ◌∙◌, None, length, refl, sym, ap, arith}
use Rattle.mutex_home.specs.declared.queues.Ends.{Ends}
use Rattle.mutex_home.proofs.QueueLemmas.{same_length, end_there, pushed, total_set}
use Rattle.mutex_home.proofs.queues.Queues.push.Goals as goal

pub invariant_of-self : goal.invariant_of-self
invariant_of-self c =
    let e = end_there c.self.inside.nodes.slots c.self.inside.ends.items c.args.mutex c.index-ends.result.now (ap (λ v. length v.lists) c.self.view_is) c.requires.made c.index-ends.ensures in
    let new : Ends = record { first = c.append-first.result; last = c.insert_reserved-key.result; waiting = c.index-ends.result.now.waiting + 1 } in
    let total = total_set c.self.inside.ends.items c.args.mutex c.index-ends.result.now new e in
    let all =
    (pushed c.self.inside.nodes.slots c.insert_reserved-key.new.self.slots c.self.inside.ends.items c.args.mutex c.insert_reserved-key.result c.index-ends.result.now
    (record { mutex = c.args.mutex; server = c.args.server; thread = c.args.thread; next = None }) c.self.invariant.0 e
    (record { vacant = c.insert_reserved-key.ensures.was_vacant; there = c.insert_reserved-key.ensures.updates.changed; others = c.insert_reserved-key.ensures.updates.others }) refl refl).0 in
    (rw (c.append-first.ensures.nodes, c.append-first.ensures.first) all, omega (arith, total, c.append-first.ensures.len, c.insert_reserved-key.ensures.len, c.self.invariant.1))

pub returns-clause-lists : goal.returns-clause-lists
returns-clause-lists c =
    let e = end_there c.self.inside.nodes.slots c.self.inside.ends.items c.args.mutex c.index-ends.result.now (ap (λ v. length v.lists) c.self.view_is) c.requires.made c.index-ends.ensures in
    rw (c.append-first.ensures.nodes, c.append-first.ensures.first, sym c.self.view_is)
    (pushed c.self.inside.nodes.slots c.insert_reserved-key.new.self.slots c.self.inside.ends.items c.args.mutex c.insert_reserved-key.result c.index-ends.result.now
    (record { mutex = c.args.mutex; server = c.args.server; thread = c.args.thread; next = None }) c.self.invariant.0 e
    (record { vacant = c.insert_reserved-key.ensures.was_vacant; there = c.insert_reserved-key.ensures.updates.changed; others = c.insert_reserved-key.ensures.updates.others }) refl refl).1

pub returns-clause-made : goal.returns-clause-made
returns-clause-made c =
    same_length c.self.inside.nodes.slots c.append-first.new.nodes.slots c.self.inside.ends.items c.args.mutex
    (record { first = c.append-first.result; last = c.insert_reserved-key.result; waiting = c.index-ends.result.now.waiting + 1 })
    ∙ ap (λ v. length v.lists) c.self.view_is
