use Rattle.std.proofs.Common.{◌-◌, length, subst, ap, ◌∙◌, arith}
use Rattle.server_index.specs.Sums.{before, IsAbove}
use Rattle.server_index.proofs.SumLemmas.{last_read, level_more}
use Rattle.server_index.proofs.sums.raise.Goals as goal

pub sums_of-requires : goal.sums_of-requires
sums_of-requires c =
    let inv = c.levels.invariant in
    let all = last_read c.levels.levels.items c.index.result.now (c.levels.at - 1) (omega (arith, inv.0, inv.1)) c.index.ensures inv.2 in
    let same = ap (λ ls. before ls (length ls)) inv.3 in
    let slice = ap (λ ls. before ls (length ls)) c.as_slice.ensures.value in
    record { fits = omega (arith, slice, all, same, c.requires.fits) }

pub levels-preserved : goal.levels-preserved
levels-preserved c =
    let inv = c.levels.invariant in
    let above = subst (λ ls. IsAbove ls c.in_ok-sums.sums.items) c.as_slice.ensures.value c.in_ok-sums.ensures in
    let more = level_more c.levels.levels.items c.push-in-levels.new.self.items c.index.result.now c.in_ok-sums.sums (c.levels.at - 1) (omega (arith, inv.0, inv.1)) c.index.ensures inv.2 above c.in_ok-push-2.ensures.items in
    (omega (arith, inv.0, c.in_ok-push-2.ensures.len), omega arith, more.0, more.1 ∙ inv.3)
