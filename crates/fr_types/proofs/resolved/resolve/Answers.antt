use Rattle.std.proofs.Common.{◌≤◌, ◌+◌, ◌*◌, ◌∙◌, ap, arith}
use Rattle.fr_types.specs.Bases.{target_at}
use Rattle.fr_types.proofs.RenewLemmas.{base_zero, one_star_low, one_star_base}
use Rattle.fr_types.proofs.resolved.resolve.Goals as goal

pub stars-init : goal.stars-init
stars-init c = record {
  slot = omega arith;
  stars = omega arith;
  base = λ n vs lt h. base_zero vs c.args.w.slot;
}

pub one_star-at-requires-clause-here : goal.one_star-at-requires-clause-here
one_star-at-requires-clause-here c = omega (arith, c.stars.invariant.slot, c.requires.here)

pub one_star-at-requires-clause-few : goal.one_star-at-requires-clause-few
one_star-at-requires-clause-few c = omega (arith, c.stars.invariant.stars, c.requires.here, c.requires.few)

pub stars-preserved : goal.stars-preserved
stars-preserved c =
    let low = one_star_low (target_at c.args.targets.now c.stars.at.slot) c.stars.at (c.requires.low c.stars.at.slot) in
    let slot : c.one_star-at.result.slot ≤ c.stars.at.slot = omega (arith, ap (λ a. a.slot) c.one_star-at.ensures, low.0) in
    let stars : c.one_star-at.result.stars + 255 * c.one_star-at.result.slot ≤ c.stars.at.stars + 255 * c.stars.at.slot + 1 = omega (arith, ap (λ a. a.slot) c.one_star-at.ensures, ap (λ a. a.stars) c.one_star-at.ensures, low.1) in
    record {
      slot = omega (arith, slot, c.stars.invariant.slot);
      stars = omega (arith, stars, c.stars.invariant.stars);
      base = λ n vs lt h. c.one_star-at.ensures ∙ one_star_base n vs c.args.targets.now c.stars.at c.args.w.slot c.stars.counter lt h c.stars.invariant.slot (c.stars.invariant.base n vs lt h);
    }
