use Rattle.std.proofs.Common.{length, ap, arith}
use Rattle.server_index.proofs.SumLemmas.{before_none, above_all, first_above}
use Rattle.server_index.proofs.sums.+find_in.Goals as goal

pub scan-requires : goal.scan-requires
scan-requires t c = record { falls = omega (arith, before_none c.args.level.now, c.requires.falls) }

pub find_in-place-requires : goal.find_in-place-requires
find_in-place-requires t c =
    let above = first_above c.args.level.now c.args.above.now c.in-Some.rest.now c.in-Some.sums.now c.deref.result.now c.in-Some.ensures.cases.0 c.deref.ensures.value c.requires.above in (
      omega (arith, c.decreases, ap length c.in-Some.ensures.cases.0),
      (above.1, omega (arith, above_all c.args.level.now c.deref.result.now above.0, c.requires.falls)),
    )
