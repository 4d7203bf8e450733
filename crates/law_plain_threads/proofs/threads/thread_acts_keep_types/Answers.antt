use Rattle.law_plain_threads.proofs.threads.thread_acts_keep_types.Goals as goal
use Rattle.law_plain_threads.proofs.threads.Spawns.{spawn_keeps}
use Rattle.law_plain_threads.proofs.threads.Finishes.{finish_keeps}
use Rattle.law_plain_threads.proofs.threads.Joins.{join_keeps}
use Rattle.law_plain_threads.proofs.threads.Pars.{par_keeps}
use Rattle.law_plain_threads.proofs.threads.ParEnds.{par_end_keeps}

pub returns-clause-start : goal.returns-clause-start
returns-clause-start c = spawn_keeps

pub returns-clause-finish : goal.returns-clause-finish
returns-clause-finish c = finish_keeps

pub returns-clause-join : goal.returns-clause-join
returns-clause-join c = join_keeps

pub returns-clause-par : goal.returns-clause-par
returns-clause-par c = par_keeps

pub returns-clause-par_end : goal.returns-clause-par_end
returns-clause-par_end c = par_end_keeps
