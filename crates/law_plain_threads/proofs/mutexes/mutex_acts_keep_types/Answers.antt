use Rattle.law_plain_threads.proofs.mutexes.mutex_acts_keep_types.Goals as goal
use Rattle.law_plain_threads.proofs.mutexes.Dups.{dup_keeps}
use Rattle.law_plain_threads.proofs.mutexes.Locks.{lock_keeps}
use Rattle.law_plain_threads.proofs.mutexes.Unlocks.{unlock_keeps}
use Rattle.law_plain_threads.proofs.mutexes.Makes.{make_keeps}

pub returns-clause-make : goal.returns-clause-make
returns-clause-make c = make_keeps

pub returns-clause-dup : goal.returns-clause-dup
returns-clause-dup c = dup_keeps

pub returns-clause-lock : goal.returns-clause-lock
returns-clause-lock c = lock_keeps

pub returns-clause-unlock : goal.returns-clause-unlock
returns-clause-unlock c = unlock_keeps
