use Rattle.coherent_memory.proofs.laws.rounds_tell_stale.Goals as goal
use Rattle.coherent_memory.proofs.StaleEnough.{rounds_law}

pub returns : goal.returns
returns c = rounds_law
