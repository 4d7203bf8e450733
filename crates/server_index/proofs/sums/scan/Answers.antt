use Rattle.std.proofs.Common.{arith}
use Rattle.server_index.proofs.SumLemmas.{before_next, before_past}
use Rattle.server_index.proofs.sums.scan.Goals as goal

pub counts-preserved : goal.counts-preserved
counts-preserved c =
    let next = before_next c.args.level.now c.counts.at in
    omega (arith, next, c.counts.invariant, c.if-left-count.false)

pub unreachable-requires : goal.unreachable-requires
unreachable-requires c =
    let past = before_past c.args.level.now c.counts.at c.counts-test.false in
    omega (arith, past, c.counts.invariant, c.requires.falls)
