use Rattle.std.proofs.Common.{◌+◌, Some, None, ap, arith}
use Rattle.rank_map.specs.Places.{item_in, count_of}
use Rattle.rank_map.proofs.BlockLemmas.{one_place, few_places, changed, slot_free, at_slot}
use Rattle.rank_map.proofs.block.Block.reserve.Goals as goal

pub overflow_add-self : goal.overflow_add-self
overflow_add-self g c = omega (arith, few_places c.self.invariant)

pub invariant_of-self : goal.invariant_of-self
invariant_of-self g c =
    let a = at_slot c.self.view_is c.self.invariant c.requires.from c.requires.to c.index_mut.ensures.value in
    let none = slot_free a c.requires.new in
    (changed {items2 = c.self.inside.items} {places2 = c.self.inside.places + 1} (Some None) a (omega (arith, ap (λ o. count_of (item_in o)) none)) (omega (arith, ap one_place none))).block

pub returns-clause-places : goal.returns-clause-places
returns-clause-places g c =
    let a = at_slot c.self.view_is c.self.invariant c.requires.from c.requires.to c.index_mut.ensures.value in
    let none = slot_free a c.requires.new in
    (changed {items2 = c.self.inside.items} {places2 = c.self.inside.places + 1} (Some None) a (omega (arith, ap (λ o. count_of (item_in o)) none)) (omega (arith, ap one_place none))).seen
