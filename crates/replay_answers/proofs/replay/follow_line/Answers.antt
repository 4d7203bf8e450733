use Rattle.std.proofs.Common.{◌≡◌, replicate, arith, sym, ap, ◌∙◌, subst}
use Rattle.fr_meaning.specs.PoolView.{whole_of}
use Rattle.replay_answers.specs.Runs.{Follows}
use Rattle.replay_answers.proofs.Following.{follows_none, line_goes, line_stops, turns_one, no_step_by, line_is_stopped}
use Rattle.replay_answers.proofs.replay.follow_line.Goals as goal

pub steps-init : goal.steps-init
steps-init c = record { goes = follows_none (whole_of c.args.pool.now); left = omega arith }

pub returns-in-Err : goal.returns-in-Err
returns-in-Err c =
    let l = c.args.line.now in
    record {
      follows = tt;
      left = tt;
      stopped = line_is_stopped (whole_of c.args.pool.now) l c.in-Err.error c.stopped.result c.stopped.ensures
          (λ other. line_stops c.steps.counter l (whole_of c.args.pool.now) (whole_of c.steps.pool) c.steps-test.true c.steps.invariant.goes (no_step_by (whole_of c.steps.pool) l.thread l.fresh c.in-Err.error other c.in-Err.ensures.free));
    }

pub steps-preserved : goal.steps-preserved
steps-preserved c =
    let l = c.args.line.now in
    record {
      goes = line_goes c.steps.counter (whole_of c.args.pool.now) (whole_of c.steps.pool) (whole_of c.step.new.self) l.thread l.fresh c.in_default.field-0.items c.steps.invariant.goes c.in_default.ensures.stepped;
      left = omega (arith, c.steps.invariant.left, c.in_default.ensures.left);
    }

pub returns-clause-follows : goal.returns-clause-follows
returns-clause-follows c =
    let done : c.steps.counter ≡ c.args.line.now.steps = omega (arith, c.steps.auto.counter-end, c.steps-test.false) in
    subst (λ ts. Follows (whole_of c.args.pool.now) ts (whole_of c.steps.pool)) (ap (λ n. replicate n (c.args.line.now.thread, c.args.line.now.fresh)) done ∙ sym (turns_one c.args.line.now)) c.steps.invariant.goes

pub returns-clause-left : goal.returns-clause-left
returns-clause-left c = omega (arith, c.steps.auto.counter-end, c.steps-test.false, c.steps.invariant.left)
