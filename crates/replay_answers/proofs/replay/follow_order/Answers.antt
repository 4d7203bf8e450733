use Rattle.std.proofs.Common.{string_bytes}
use Rattle.std.proofs.lemmas.Result.{err_from_is_err_and}
use Rattle.fr_meaning.specs.PoolView.{whole_of}
use Rattle.replay_answers.proofs.Following.{replays_from}
use Rattle.replay_answers.proofs.replay.follow_order.Goals as goal

pub returns-in_err-text-clause-stopped : goal.returns-in_err-text-clause-stopped
returns-in_err-text-clause-stopped c = let p = err_from_is_err_and c.from_residual-in_err-text.result c.from_residual-in_err-text.ensures.1 in rw (p.1, p.2) tt

pub returns-clause-replays : goal.returns-clause-replays
returns-clause-replays c =
    replays_from (whole_of c.args.pool.now) (whole_of c.follow.new.pool) c.args.order.now.items c.in_ok-steps.steps c.ending-ending.result c.output.result.now c.status_of.result (string_bytes c.in_ok-text.text)
    c.in_ok-steps.ensures.follows c.in_ok-steps.ensures.steps c.ending-ending.ensures c.output.ensures c.status_of.ensures c.in_ok-text.ensures
