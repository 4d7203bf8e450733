use Rattle.law_heap_steps.proofs.threads.par_steps.Goals as goal
use Rattle.law_heap_steps.proofs.threads.ParLines.{pars}

pub returns : goal.returns
returns c = pars
