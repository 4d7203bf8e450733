use Rattle.fr_sound.proofs.Together.{never_stuck_together_lem, waits_for_living_lem}
use Rattle.fr_sound.proofs.Standing.{one_of_three_lem}
use Rattle.fr_sound.proofs.laws.never_stuck_together.Goals as goal

pub returns-clause-stands : goal.returns-clause-stands
returns-clause-stands c = one_of_three_lem

pub returns-clause-steps : goal.returns-clause-steps
returns-clause-steps c = never_stuck_together_lem

pub returns-clause-waits : goal.returns-clause-waits
returns-clause-waits c = waits_for_living_lem
