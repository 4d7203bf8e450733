use Rattle.std.proofs.Common.{arith}
use Rattle.server_parts.proofs.SeenLemmas.{one_fewer}
use Rattle.server_parts.proofs.marks.count.Goals as goal

pub overflow_sub-result : goal.overflow_sub-result
overflow_sub-result c =
    let fewer = one_fewer c.args.set.now c.args.left _ c.requires.set c.in-Some.is in
    omega (arith, fewer, c.len.ensures)

pub returns-in-Some : goal.returns-in-Some
returns-in-Some c =
    let fewer = one_fewer c.args.set.now c.args.left _ c.requires.set c.in-Some.is in
    omega (arith, fewer, c.len.ensures)
