use Rattle.fr_sound.proofs.Below.fr_plain.SameSteps.{same_plain}
use Rattle.fr_sound.proofs.Below.fr_plain.ListedOnce.{once_stays}
use Rattle.fr_code.specs.Steps.{code_moves}
use Rattle.fr_code.proofs.laws.same_plain.Goals as goal

pub returns-clause-agree : goal.returns-clause-agree
returns-clause-agree c = λ code. same_plain (code_moves code)

pub returns-clause-once : goal.returns-clause-once
returns-clause-once c = λ code. once_stays (code_moves code)
