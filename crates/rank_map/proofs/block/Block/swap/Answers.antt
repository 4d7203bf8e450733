use Rattle.std.proofs.Common.{◌<◌, ◌+◌, ◌-◌, Some, sym, ap, ◌∙◌, rules, arith}
use Rattle.rank_map.specs.Places.{item_in, count_of}
use Rattle.rank_map.proofs.PlaceLemmas.{count_most}
use Rattle.rank_map.proofs.BlockLemmas.{one_place, changed, block_bounds, slot_place, slot_bare, there_slot, few_items, item_counted}
use Rattle.rank_map.proofs.block.Block.swap.Goals as goal

pub overflow_sub-key : goal.overflow_sub-key
overflow_sub-key g c = (block_bounds c.args.key c.self.view_is c.self.invariant c.requires.place).0

pub index_mut-requires : goal.index_mut-requires
index_mut-requires g c =
    let bounds = block_bounds c.args.key c.self.view_is c.self.invariant c.requires.place in
    let within : c.args.key - c.self.inside.first < 16 = omega (arith, bounds.0, bounds.1) in
    search (rules, within)

pub unreachable-requires : goal.unreachable-requires
unreachable-requires g c = slot_bare (there_slot c.self.view_is c.self.invariant c.requires.place c.index_mut.ensures.value) c.requires.place c.in-None.is

pub overflow_add-self : goal.overflow_add-self
overflow_add-self g c = omega (arith, few_items c.self.invariant, c.count_of-more.ensures, count_most c.args.item.now)

pub overflow_sub-self : goal.overflow_sub-self
overflow_sub-self g c =
    let a = there_slot c.self.view_is c.self.invariant c.requires.place c.index_mut.ensures.value in
    omega (arith, item_counted a, ap (λ o. count_of (item_in o)) c.in-Some.is, ap count_of c.swap.ensures.y_after, c.count_of.ensures)

pub invariant_of-self : goal.invariant_of-self
invariant_of-self g c =
    let a = there_slot c.self.view_is c.self.invariant c.requires.place c.index_mut.ensures.value in
    rw c.swap.ensures.x_after
    (changed {items2 = c.self.inside.items + c.count_of-more.result - c.count_of.result} {places2 = c.self.inside.places} (Some c.args.item.now) a (omega (arith, item_counted a, ap (λ o. count_of (item_in o)) c.in-Some.is, ap count_of c.swap.ensures.y_after, c.count_of.ensures, c.count_of-more.ensures)) (omega (arith, ap one_place c.in-Some.is))).block

pub returns-clause-item : goal.returns-clause-item
returns-clause-item g c =
    let a = there_slot c.self.view_is c.self.invariant c.requires.place c.index_mut.ensures.value in
    c.swap.ensures.y_after ∙ sym (ap item_in (slot_place a ∙ c.in-Some.is))

pub returns-clause-places : goal.returns-clause-places
returns-clause-places g c =
    let a = there_slot c.self.view_is c.self.invariant c.requires.place c.index_mut.ensures.value in
    rw c.swap.ensures.x_after
    (changed {items2 = c.self.inside.items + c.count_of-more.result - c.count_of.result} {places2 = c.self.inside.places} (Some c.args.item.now) a (omega (arith, item_counted a, ap (λ o. count_of (item_in o)) c.in-Some.is, ap count_of c.swap.ensures.y_after, c.count_of.ensures, c.count_of-more.ensures)) (omega (arith, ap one_place c.in-Some.is))).seen
