use Rattle.coherent_memory.proofs.laws.some_follow.Goals as goal
use Rattle.coherent_memory.proofs.Following.{follow_law}

pub returns : goal.returns
returns c = follow_law
