use Rattle.std.proofs.Common.{string_bytes}
use Rattle.replay_answers.specs.Answers.{followed}
use Rattle.replay_answers.proofs.Unfollowed.{unfollowed_by}
use Rattle.replay_answers.proofs.replay.replay_answer.Goals as goal

pub returns-in-Ok : goal.returns-in-Ok
returns-in-Ok c = followed c.in-Ok.ensures.replays

pub returns-in_ok-text-in-Err : goal.returns-in_ok-text-in-Err
returns-in_ok-text-in-Err c =
    unfollowed_by c.args.bytes.now c.in-Err.refused c.status.result (string_bytes c.in_ok-text-in-Err.field-0) c.in_ok-text-in-Err.ensures.cause c.in-Err.ensures.refused c.status.ensures c.in_ok-text-in-Err.ensures.text
