use Rattle.law_heap_steps.proofs.threads.spawn_steps.Goals as goal
use Rattle.law_heap_steps.proofs.threads.SpawnLines.{spawns}

pub returns : goal.returns
returns c = spawns
