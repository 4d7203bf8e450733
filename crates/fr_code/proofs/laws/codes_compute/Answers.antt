use Rattle.fr_code.proofs.laws.codes_compute.Goals as goal
use Rattle.fr_code.proofs.Codes.{codes_compute_lem}

pub returns : goal.returns
returns c = codes_compute_lem
