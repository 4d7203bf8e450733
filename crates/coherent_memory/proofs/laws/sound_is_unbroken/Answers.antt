use Rattle.coherent_memory.proofs.laws.sound_is_unbroken.Goals as goal
use Rattle.coherent_memory.proofs.Unbroken.{sound_law}

pub returns : goal.returns
returns c = sound_law
