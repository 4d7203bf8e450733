use Rattle.law_entries_variables.proofs.deliveries.legal_entries_continue.Goals as goal
use Rattle.law_entries_variables.proofs.deliveries.Continued.{continues}

pub returns : goal.returns
returns c = continues
