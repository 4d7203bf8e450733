use Rattle.coherent_types.proofs.laws.coherent_compute.Goals as goal
use Rattle.coherent_types.proofs.Whole.{coherent_compute}

pub returns : goal.returns
returns c = coherent_compute
