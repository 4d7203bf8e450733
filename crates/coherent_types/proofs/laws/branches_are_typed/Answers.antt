use Rattle.coherent_types.proofs.laws.branches_are_typed.Goals as goal
use Rattle.coherent_types.proofs.Branches.{branches_law}

pub returns : goal.returns
returns c = branches_law
