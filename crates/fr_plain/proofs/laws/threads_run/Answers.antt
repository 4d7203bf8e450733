use Rattle.std.proofs.Common.{refl}
use Rattle.fr_plain.proofs.laws.threads_run.Goals as goal

pub returns : goal.returns
returns c = record {
  joined_soon = refl;
  joined_late = refl;
  join_waits = refl;
  cannot_join = refl;
  moved_in = refl;
  copied_in = refl;
  let_go_soon = refl;
  let_go_late = refl;
  task_of_task = refl;
  no_such = refl;
  ended_there = refl;
  wants_name = refl;
  wants_none = refl;
  main_is_given = refl;
  is_given = refl;
  deadlocked = refl;
  deadlocked_beside = refl;
  not_deadlocked = refl;
  not_waiting = refl;
  not_finished = refl;
  finished = refl;
}
