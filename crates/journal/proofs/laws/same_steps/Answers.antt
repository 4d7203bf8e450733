use Rattle.journal.proofs.OneReading.{joined}
use Rattle.journal.proofs.laws.same_steps.Goals as goal

pub returns-clause-joined : goal.returns-clause-joined
returns-clause-joined c = joined
