use Rattle.law_heap_steps.proofs.threads.end_steps.Goals as goal
use Rattle.law_heap_steps.proofs.threads.EndLines.{ends_are}

pub returns : goal.returns
returns c = ends_are
