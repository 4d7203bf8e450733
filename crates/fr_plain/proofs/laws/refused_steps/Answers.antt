use Rattle.fr_plain.proofs.RefusedSteps.{no_step}
use Rattle.fr_plain.proofs.laws.refused_steps.Goals as goal

pub returns : goal.returns
returns c = no_step
