use Rattle.law_words_issued.proofs.old.first_words_are_old.Goals as goal
use Rattle.law_words_issued.proofs.old.Firsts.{steps_leave_firsts, arrivals_leave_firsts}

pub returns : goal.returns
returns c = record { steps = steps_leave_firsts; arrivals = arrivals_leave_firsts }
