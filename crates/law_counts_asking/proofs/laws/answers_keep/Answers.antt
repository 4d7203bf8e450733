use Rattle.law_counts_asking.proofs.laws.answers_keep.Goals as goal
use Rattle.law_counts_asking.proofs.Carried.{carried_kept}

pub returns : goal.returns
returns c = carried_kept
