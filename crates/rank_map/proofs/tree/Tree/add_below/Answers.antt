use Rattle.std.proofs.Common.{arith}
use Rattle.rank_map.proofs.PlaceLemmas.{rises_bounds}
use Rattle.rank_map.proofs.ForkLemmas.{added_below}
use Rattle.rank_map.proofs.tree.Tree.add_below.Goals as goal

pub make_leaf-requires : goal.make_leaf-requires
make_leaf-requires g c =
    let bounds = rises_bounds c.args.self.now c.args.from c.args.to c.requires.rises in
    record { few = omega (arith, bounds, c.requires.below, c.requires.bound) }

pub around-from-requires-clause-few : goal.around-from-requires-clause-few
around-from-requires-clause-few g c =
    let bounds = rises_bounds c.args.self.now c.args.from c.args.to c.requires.rises in
    omega (arith, bounds, c.requires.bound, c.middle-middle.ensures.within)

pub invariant_of-self : goal.invariant_of-self
invariant_of-self g c =
    rw (c.in-Ok.ensures.ok, c.replace-high.ensures.value)
    (added_below c.requires.rises c.requires.some c.middle-middle.ensures.above c.middle-middle.ensures.within c.around-from.ensures.from c.around-from.ensures.to c.around-from.ensures.fits c.in_ok-low.ensures c.len-count.ensures).fork

pub returns-in-Ok-clause-places : goal.returns-in-Ok-clause-places
returns-in-Ok-clause-places g c =
    rw (c.in-Ok.ensures.ok, c.replace-high.ensures.value)
    (added_below c.requires.rises c.requires.some c.middle-middle.ensures.above c.middle-middle.ensures.within c.around-from.ensures.from c.around-from.ensures.to c.around-from.ensures.fits c.in_ok-low.ensures c.len-count.ensures).seen
