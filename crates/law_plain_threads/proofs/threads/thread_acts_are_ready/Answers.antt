use Rattle.law_plain_threads.proofs.threads.thread_acts_are_ready.Goals as goal
use Rattle.law_plain_threads.proofs.threads.Example.{start_is_ready, par_is_ready, finish_is_ready, join_is_ready}
use Rattle.law_plain_threads.proofs.threads.PairExample.{par_end_is_ready}

pub returns-clause-start : goal.returns-clause-start
returns-clause-start c = start_is_ready

pub returns-clause-finish : goal.returns-clause-finish
returns-clause-finish c = finish_is_ready

pub returns-clause-join : goal.returns-clause-join
returns-clause-join c = join_is_ready

pub returns-clause-par : goal.returns-clause-par
returns-clause-par c = par_is_ready

pub returns-clause-par_end : goal.returns-clause-par_end
returns-clause-par_end c = par_end_is_ready
