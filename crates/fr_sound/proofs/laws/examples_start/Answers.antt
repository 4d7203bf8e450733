use Rattle.fr_sound.proofs.Example.{examples_start_lem}
use Rattle.fr_sound.proofs.laws.examples_start.Goals as goal

pub returns : goal.returns
returns c = examples_start_lem
