use Rattle.law_plain_threads.proofs.mutexes.mutex_acts_are_ready.Goals as goal
use Rattle.law_plain_threads.proofs.mutexes.Example.{make_is_ready, dup_is_ready, lock_is_ready, unlock_is_ready}

pub returns-clause-make : goal.returns-clause-make
returns-clause-make c = make_is_ready

pub returns-clause-dup : goal.returns-clause-dup
returns-clause-dup c = dup_is_ready

pub returns-clause-lock : goal.returns-clause-lock
returns-clause-lock c = lock_is_ready

pub returns-clause-unlock : goal.returns-clause-unlock
returns-clause-unlock c = unlock_is_ready
