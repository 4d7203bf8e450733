use Rattle.fr_plain.specs.Run.{terms}
use Rattle.fr_plain.proofs.SameSteps.{same_plain}
use Rattle.fr_plain.proofs.ListedOnce.{once_stays}
use Rattle.fr_plain.proofs.laws.same_plain.Goals as goal

pub returns-clause-agree : goal.returns-clause-agree
returns-clause-agree c = same_plain terms

pub returns-clause-once : goal.returns-clause-once
returns-clause-once c = once_stays terms
