use Rattle.server_model.proofs.laws.others_are_left.Goals as goal
use Rattle.server_model.proofs.OthersLemmas.{acting_leaves, applying_leaves}

pub returns-clause-acting : goal.returns-clause-acting
returns-clause-acting c = acting_leaves

pub returns-clause-applying : goal.returns-clause-applying
returns-clause-applying c = applying_leaves
