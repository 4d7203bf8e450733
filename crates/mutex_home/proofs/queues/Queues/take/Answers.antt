use Rattle.std.proofs.Common.{◌-◌, ◌∙◌, length, sym, ap, arith}
use Rattle.std.specs.Prelude.{is_some}
use Rattle.mutex_home.specs.declared.queues.Ends.{Ends}
use Rattle.mutex_home.proofs.QueueLemmas.{same_length, end_there, first_there, none_taken, some_taken, total_set}
use Rattle.mutex_home.proofs.queues.Queues.take.Goals as goal

pub remove-node-requires : goal.remove-node-requires
remove-node-requires c =
    let e = end_there c.self.inside.nodes.slots c.self.inside.ends.items c.args.mutex c.index-ends.result.now (ap (λ v. length v.lists) c.self.view_is) c.requires.made c.index-ends.ensures in
    ap is_some (first_there c.self.inside.nodes.slots c.self.inside.ends.items c.args.mutex c.index-ends.result.now c.in-Some.key c.self.invariant.0 e c.in-Some.is).there

pub overflow_sub-ends : goal.overflow_sub-ends
overflow_sub-ends c =
    let e = end_there c.self.inside.nodes.slots c.self.inside.ends.items c.args.mutex c.index-ends.result.now (ap (λ v. length v.lists) c.self.view_is) c.requires.made c.index-ends.ensures in
    let more = (first_there c.self.inside.nodes.slots c.self.inside.ends.items c.args.mutex c.index-ends.result.now c.in-Some.key c.self.invariant.0 e c.in-Some.is).waiting in
    omega (arith, more)

pub invariant_of-self : goal.invariant_of-self
invariant_of-self c =
    let e = end_there c.self.inside.nodes.slots c.self.inside.ends.items c.args.mutex c.index-ends.result.now (ap (λ v. length v.lists) c.self.view_is) c.requires.made c.index-ends.ensures in
    let new : Ends = record { first = c.remove-node.result.next; last = c.index-ends.result.now.last; waiting = c.index-ends.result.now.waiting - 1 } in
    let total = total_set c.self.inside.ends.items c.args.mutex c.index-ends.result.now new e in
    let more = (first_there c.self.inside.nodes.slots c.self.inside.ends.items c.args.mutex c.index-ends.result.now c.in-Some.key c.self.invariant.0 e c.in-Some.is).waiting in (
      (some_taken c.self.inside.nodes.slots c.remove-node.new.self.slots c.self.inside.ends.items c.args.mutex c.index-ends.result.now c.in-Some.key c.remove-node.result c.self.invariant.0 e c.in-Some.is
          c.remove-node.ensures.value c.remove-node.ensures.updates.others).0,
      omega (arith, total, more, c.remove-node.ensures.len, c.self.invariant.1),
    )

pub returns-in-None-clause-first : goal.returns-in-None-clause-first
returns-in-None-clause-first c =
    let e = end_there c.self.inside.nodes.slots c.self.inside.ends.items c.args.mutex c.index-ends.result.now (ap (λ v. length v.lists) c.self.view_is) c.requires.made c.index-ends.ensures in
    rw (sym c.self.view_is) (none_taken c.self.inside.nodes.slots c.self.inside.ends.items c.args.mutex c.index-ends.result.now c.self.invariant.0 e c.in-None.is)

pub returns-in-Some-clause-first : goal.returns-in-Some-clause-first
returns-in-Some-clause-first c =
    let e = end_there c.self.inside.nodes.slots c.self.inside.ends.items c.args.mutex c.index-ends.result.now (ap (λ v. length v.lists) c.self.view_is) c.requires.made c.index-ends.ensures in
    rw (sym c.self.view_is)
    (some_taken c.self.inside.nodes.slots c.remove-node.new.self.slots c.self.inside.ends.items c.args.mutex c.index-ends.result.now c.in-Some.key c.remove-node.result c.self.invariant.0 e c.in-Some.is
    c.remove-node.ensures.value c.remove-node.ensures.updates.others).1

pub returns-in-Some-clause-made : goal.returns-in-Some-clause-made
returns-in-Some-clause-made c =
    same_length c.self.inside.nodes.slots c.remove-node.new.self.slots c.self.inside.ends.items c.args.mutex
    (record { first = c.remove-node.result.next; last = c.index-ends.result.now.last; waiting = c.index-ends.result.now.waiting - 1 })
    ∙ ap (λ v. length v.lists) c.self.view_is
