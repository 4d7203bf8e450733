use Rattle.law_words_issued.proofs.ever.lent_words_stay.Goals as goal
use Rattle.law_words_issued.proofs.ever.Steps.{steps_leave_lent}
use Rattle.law_words_issued.proofs.ever.Landings.{landings_leave_lent}

pub returns : goal.returns
returns c = record { steps = steps_leave_lent; landings = landings_leave_lent }
