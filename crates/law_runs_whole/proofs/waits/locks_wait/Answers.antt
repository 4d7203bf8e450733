use Rattle.law_runs_whole.proofs.waits.locks_wait.Goals as goal
use Rattle.law_runs_whole.proofs.waits.Locks.{locks_wait}
use Rattle.law_runs_whole.proofs.waits.Deadlocks.{deadlocks_agree}

pub returns : goal.returns
returns c = record { locks = locks_wait; all = deadlocks_agree }
