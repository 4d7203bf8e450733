use Rattle.fr_sound.proofs.Whole.{never_stuck_lem}
use Rattle.fr_sound.proofs.laws.never_stuck.Goals as goal

pub returns : goal.returns
returns c = never_stuck_lem
