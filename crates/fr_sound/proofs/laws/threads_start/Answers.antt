use Rattle.fr_sound.proofs.Starting.{threads_start_lem}
use Rattle.fr_sound.proofs.laws.threads_start.Goals as goal

pub returns : goal.returns
returns c = threads_start_lem
