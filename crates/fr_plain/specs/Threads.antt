-- The threads of the plain machine that runs terms.
use Rattle.fr_plain.specs.Run.{Run}
use Rattle.fr_plain.specs.MachineThreads as machine
pub use Rattle.fr_plain.specs.MachineThreads.{Passed, left_after, then_passed, pass, mutex_at, mutex_there, thread_at, with_thread, is_given, result_of_life, result_in, result_at, with_life, release_by, release, is_over, all_over, state_of}
pub use Rattle.fr_plain.specs.Machine.{unless_some, join_waits, act_waits, move_waits}
pub use Rattle.fr_plain.specs.Tasks.{task_in, task_in_some, released, released_in, let_threads_go, let_go}

abbrev pub Thread : Type 0
Thread = machine.Thread Run

abbrev pub Whole : Type 0
Whole = machine.Whole Run
