use Rattle.fr_sound.proofs.Starting.{starts_together_lem}
use Rattle.fr_sound.proofs.laws.starts_together.Goals as goal

pub returns : goal.returns
returns c = starts_together_lem
