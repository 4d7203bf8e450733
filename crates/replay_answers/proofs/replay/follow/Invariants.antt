use Rattle.std.proofs.Common.{◌≡◌, ◌+◌, length, take}
use Rattle.fr_meaning.specs.PoolView.{whole_of, steps_left_of}
use Rattle.replay_answers.specs.Replay.{turns}
use Rattle.replay_answers.specs.Runs.{Follows}
use Rattle.replay_answers.proofs.replay.follow.Given as goal

abbrev pub invariant-lines : goal.invariant-lines
invariant-lines l = record {
  goes : Follows (whole_of l.initial.pool) (turns (take l.at l.order.items)) (whole_of l.pool);
  steps : l.steps ≡ length (turns (take l.at l.order.items));
  left : l.steps + steps_left_of l.pool ≡ steps_left_of l.initial.pool;
}
