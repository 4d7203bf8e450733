use Rattle.coherent_memory.proofs.laws.sums_stay.Goals as goal
use Rattle.coherent_memory.proofs.Sums.{hand_over_law}
use Rattle.coherent_memory.proofs.Starts.{start_law}

pub returns-clause-handed : goal.returns-clause-handed
returns-clause-handed c = hand_over_law

pub returns-clause-starts : goal.returns-clause-starts
returns-clause-starts c = start_law
