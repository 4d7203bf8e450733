use Rattle.coherent_types.proofs.laws.none_owns_itself.Goals as goal
use Rattle.coherent_types.proofs.Owning.{none_owns_itself}

pub returns : goal.returns
returns c = none_owns_itself
