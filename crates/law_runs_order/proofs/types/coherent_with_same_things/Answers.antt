use Rattle.law_runs_order.proofs.types.coherent_with_same_things.Goals as goal
use Rattle.law_runs_order.proofs.types.Coherent.{coherent_with_same_things}

pub returns : goal.returns
returns c = coherent_with_same_things
