use Rattle.coherent_types.proofs.laws.starts_have_types.Goals as goal
use Rattle.coherent_types.proofs.Start.{start_has_types_lem}

pub returns : goal.returns
returns c = start_has_types_lem
