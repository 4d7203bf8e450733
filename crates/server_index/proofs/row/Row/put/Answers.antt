use Rattle.std.proofs.Common.{◌/◌, arith}
use Rattle.server_index.proofs.RankLemmas.{can_put, same_put}
use Rattle.server_index.proofs.row.Row.put.Goals as goal

pub adjust-requires-clause-least : goal.adjust-requires-clause-least
adjust-requires-clause-least c =
    (can_put c.self.inside.states.items _ c.self.inside.sums c.self.inside.count c.args.column (c.args.column / 16) c.index.result.now c.count_in-less.result c.count_in-more.result c.args.state c.self.invariant c.self.view_is c.requires.within c.index.ensures c.count_in-less.ensures c.count_in-more.ensures (omega arith) (omega arith)).least

pub adjust-requires-clause-fits : goal.adjust-requires-clause-fits
adjust-requires-clause-fits c =
    (can_put c.self.inside.states.items _ c.self.inside.sums c.self.inside.count c.args.column (c.args.column / 16) c.index.result.now c.count_in-less.result c.count_in-more.result c.args.state c.self.invariant c.self.view_is c.requires.within c.index.ensures c.count_in-less.ensures c.count_in-more.ensures (omega arith) (omega arith)).sums_fit

pub overflow_sub-self : goal.overflow_sub-self
overflow_sub-self c =
    (can_put c.self.inside.states.items _ c.self.inside.sums c.self.inside.count c.args.column (c.args.column / 16) c.index.result.now c.count_in-less.result c.count_in-more.result c.args.state c.self.invariant c.self.view_is c.requires.within c.index.ensures c.count_in-less.ensures c.count_in-more.ensures (omega arith) (omega arith)).counted

pub overflow_add-self : goal.overflow_add-self
overflow_add-self c =
    let can = can_put c.self.inside.states.items _ c.self.inside.sums c.self.inside.count c.args.column (c.args.column / 16) c.index.result.now c.count_in-less.result c.count_in-more.result c.args.state c.self.invariant c.self.view_is c.requires.within c.index.ensures c.count_in-less.ensures c.count_in-more.ensures (omega arith) (omega arith) in
    omega (arith, can.counted, can.fits)

pub invariant_of-self : goal.invariant_of-self
invariant_of-self c =
    rw c.adjust.ensures
    (can_put c.self.inside.states.items _ c.self.inside.sums c.self.inside.count c.args.column (c.args.column / 16) c.index.result.now c.count_in-less.result c.count_in-more.result c.args.state c.self.invariant c.self.view_is c.requires.within c.index.ensures c.count_in-less.ensures c.count_in-more.ensures (omega arith) (omega arith)).kept

pub invariant_of-self-else-less-more : goal.invariant_of-self-else-less-more
invariant_of-self-else-less-more c =
    same_put c.self.inside.states.items _ c.self.inside.sums c.self.inside.count c.args.column c.index.result.now c.count_in-less.result c.count_in-more.result c.args.state c.self.invariant c.self.view_is c.requires.within c.index.ensures c.count_in-less.ensures c.count_in-more.ensures c.if-less-more.false
