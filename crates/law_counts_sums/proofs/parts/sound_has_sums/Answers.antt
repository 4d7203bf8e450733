use Rattle.law_counts_sums.proofs.parts.sound_has_sums.Goals as goal
use Rattle.law_counts_sums.proofs.Sound.{sound_has_sums}

pub returns : goal.returns
returns c = sound_has_sums
