use Rattle.std.proofs.Common.{ap, arith}
use Rattle.std.proofs.lemmas.List.{length-map, get_or-map}
use Rattle.server_index.specs.Sums.{before}
use Rattle.server_index.specs.Ranks.{count_in, marks}
use Rattle.server_index.proofs.SumLemmas.{before_next, before_past}
use Rattle.server_index.proofs.row.scan.Goals as goal

pub states-preserved : goal.states-preserved
states-preserved c =
    let next = before_next (marks c.args.states.now) c.states.at in
    let here = get_or-map count_in c.args.states.now c.states.at 0 0 c.states-test.true in
    omega (arith, next, here, c.count_in-count.ensures, c.states.invariant, c.if-left-count.false)

pub unreachable-requires : goal.unreachable-requires
unreachable-requires c =
    let past = before_past (marks c.args.states.now) c.states.at (omega (arith, c.states-test.false, length-map c.args.states.now count_in)) in
    let all = ap (λ n. before (marks c.args.states.now) n) (length-map c.args.states.now count_in) in
    omega (arith, past, all, c.states.invariant, c.requires.falls)
