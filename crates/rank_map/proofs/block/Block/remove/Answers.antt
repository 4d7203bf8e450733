use Rattle.std.proofs.Common.{◌<◌, ◌-◌, None, sym, ap, ◌∙◌, rules, arith}
use Rattle.rank_map.specs.Places.{item_in, count_of}
use Rattle.rank_map.proofs.BlockLemmas.{one_place, changed, block_bounds, slot_place, slot_bare, there_slot, item_counted, place_counted}
use Rattle.rank_map.proofs.block.Block.remove.Goals as goal

pub overflow_sub-key : goal.overflow_sub-key
overflow_sub-key g c = (block_bounds c.args.key c.self.view_is c.self.invariant c.requires.place).0

pub index_mut-requires : goal.index_mut-requires
index_mut-requires g c =
    let bounds = block_bounds c.args.key c.self.view_is c.self.invariant c.requires.place in
    let within : c.args.key - c.self.inside.first < 16 = omega (arith, bounds.0, bounds.1) in
    search (rules, within)

pub unreachable-requires : goal.unreachable-requires
unreachable-requires g c = slot_bare (there_slot c.self.view_is c.self.invariant c.requires.place c.index_mut.ensures.value) c.requires.place (sym c.take.ensures.value ∙ c.in_default.is)

pub overflow_sub-self : goal.overflow_sub-self
overflow_sub-self g c =
    let a = there_slot c.self.view_is c.self.invariant c.requires.place c.index_mut.ensures.value in
    let is = sym c.take.ensures.value ∙ c.in-Some.is in
    omega (arith, item_counted a, ap (λ o. count_of (item_in o)) is, c.count_of.ensures)

pub invariant_of-self : goal.invariant_of-self
invariant_of-self g c =
    let a = there_slot c.self.view_is c.self.invariant c.requires.place c.index_mut.ensures.value in
    let is = sym c.take.ensures.value ∙ c.in-Some.is in
    rw c.take.ensures.after
    (changed {items2 = c.self.inside.items - c.count_of.result} {places2 = c.self.inside.places - 1} None a (omega (arith, item_counted a, ap (λ o. count_of (item_in o)) is, c.count_of.ensures)) (omega (arith, place_counted a, ap one_place is))).block

pub returns-clause-item : goal.returns-clause-item
returns-clause-item g c =
    let a = there_slot c.self.view_is c.self.invariant c.requires.place c.index_mut.ensures.value in
    sym (ap item_in (slot_place a ∙ sym c.take.ensures.value ∙ c.in-Some.is))

pub returns-clause-places : goal.returns-clause-places
returns-clause-places g c =
    let a = there_slot c.self.view_is c.self.invariant c.requires.place c.index_mut.ensures.value in
    let is = sym c.take.ensures.value ∙ c.in-Some.is in
    rw c.take.ensures.after
    (changed {items2 = c.self.inside.items - c.count_of.result} {places2 = c.self.inside.places - 1} None a (omega (arith, item_counted a, ap (λ o. count_of (item_in o)) is, c.count_of.ensures)) (omega (arith, place_counted a, ap one_place is))).seen
