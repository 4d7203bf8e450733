use Rattle.std.proofs.Common.{◌/◌, ◌+◌, ◌-◌, ◌++◌, length, replicate, refl, arith}
use Rattle.server_index.specs.Sums.{IsAbove}
use Rattle.server_index.proofs.SumLemmas.{taller, wider, either_way, first_above}
use Rattle.server_index.proofs.sums.+widen_all.Goals as goal

pub returns-clause-above : goal.returns-clause-above
returns-clause-above t c =
    let level = c.args.level.now.items in
    let sums = c.in-Some.sums.now.items in
    let count = c.args.count / 16 + 1 in
    let above = first_above level c.args.above.now c.in-Some.rest.now c.in-Some.sums.now sums c.in-Some.ensures.cases.0 refl c.requires.above in (
      rw c.in_ok-widen_all.ensures.more
          (either_way (λ cs. IsAbove cs (sums ++ replicate (count - length sums) 0)) c.widen-2.result level (level ++ replicate (c.args.count - length level) 0) c.widen-2.new.entries.items c.widen-2.ensures.more c.widen-2.ensures.refused
          (wider level sums c.args.count count above.0 (omega arith)) (taller level sums (count - length sums) above.0)),
      c.widen_all.ensures.above,
    )
