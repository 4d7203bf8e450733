use Rattle.std.proofs.Common.{◌≡◌, ◌+◌, replicate}
use Rattle.fr_meaning.specs.PoolView.{whole_of, steps_left_of}
use Rattle.replay_answers.specs.Runs.{Follows}
use Rattle.replay_answers.proofs.replay.follow_line.Given as goal

abbrev pub invariant-steps : goal.invariant-steps
invariant-steps l = record {
  goes : Follows (whole_of l.initial.pool) (replicate l.counter (l.line.thread, l.line.fresh)) (whole_of l.pool);
  left : steps_left_of l.pool + l.counter ≡ steps_left_of l.initial.pool;
}
