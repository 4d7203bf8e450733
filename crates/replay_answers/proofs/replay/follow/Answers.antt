use Rattle.std.proofs.Common.{arith, rules}
use Rattle.fr_meaning.specs.PoolView.{whole_of}
use Rattle.replay_answers.proofs.Following.{line_more, steps_more, stops_in}
use Rattle.replay_answers.proofs.replay.follow.Goals as goal

pub returns-in_err-follow_line-clause-stopped : goal.returns-in_err-follow_line-clause-stopped
returns-in_err-follow_line-clause-stopped c =
    let stop = stops_in (whole_of c.args.pool.now) (whole_of c.lines.pool) c.args.order.now.items c.lines.at c.in-Some.line.now c.in_err-follow_line.field-0.0 c.in-Some.ensures c.lines.invariant.goes c.in_err-follow_line.ensures.stopped in
    search rules

pub lines-preserved : goal.lines-preserved
lines-preserved c =
    let more = steps_more c.args.order.now.items c.lines.at c.in-Some.line.now c.in-Some.ensures in
    record {
      goes = line_more (whole_of c.args.pool.now) (whole_of c.lines.pool) (whole_of c.follow_line.new.pool) c.args.order.now.items c.lines.at c.in-Some.line.now c.in-Some.ensures c.lines.invariant.goes c.in_ok-follow_line.ensures.follows;
      steps = omega (arith, more, c.lines.invariant.steps);
      left = omega (arith, c.lines.invariant.left, c.in_ok-follow_line.ensures.left);
    }
