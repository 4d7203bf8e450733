use Rattle.fr_sound.proofs.Apart.{apart}
use Rattle.fr_sound.proofs.laws.threads_apart.Goals as goal

pub returns : goal.returns
returns c = apart
