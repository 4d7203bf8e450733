use Rattle.std.proofs.Common.{arith}
use Rattle.rank_map.proofs.ForkLemmas.{bounds_apart, added_above}
use Rattle.rank_map.proofs.tree.Tree.add_above.Goals as goal

pub overflow_sub-to : goal.overflow_sub-to
overflow_sub-to g c =
    let bounds = bounds_apart c.args.self.now c.args.from c.args.to c.requires.rises c.requires.some in
    omega (arith, bounds)

pub middle-middle-requires : goal.middle-middle-requires
middle-middle-requires g c =
    let bounds = bounds_apart c.args.self.now c.args.from c.args.to c.requires.rises c.requires.some in
    omega (arith, bounds, c.requires.above)

pub invariant_of-self : goal.invariant_of-self
invariant_of-self g c =
    rw (c.in-Ok.ensures.ok, c.replace-low.ensures.value)
    (added_above c.requires.rises c.requires.some (omega (arith, c.middle-middle.ensures.above)) c.middle-middle.ensures.within c.around-from.ensures.from (omega (arith, c.around-from.ensures.to)) c.around-from.ensures.fits c.in_ok-high.ensures c.len-count.ensures).fork

pub returns-in-Ok-clause-places : goal.returns-in-Ok-clause-places
returns-in-Ok-clause-places g c =
    rw (c.in-Ok.ensures.ok, c.replace-low.ensures.value)
    (added_above c.requires.rises c.requires.some (omega (arith, c.middle-middle.ensures.above)) c.middle-middle.ensures.within c.around-from.ensures.from (omega (arith, c.around-from.ensures.to)) c.around-from.ensures.fits c.in_ok-high.ensures c.len-count.ensures).seen
