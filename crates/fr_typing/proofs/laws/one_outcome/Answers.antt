use Rattle.fr_typing.proofs.Outcomes.{one_outcome_lem}
use Rattle.fr_typing.proofs.laws.one_outcome.Goals as goal

pub returns : goal.returns
returns c = one_outcome_lem
