use Rattle.fr_sound.proofs.Whole.{starts_typed_lem}
use Rattle.fr_sound.proofs.laws.starts_typed.Goals as goal

pub returns : goal.returns
returns c = starts_typed_lem
