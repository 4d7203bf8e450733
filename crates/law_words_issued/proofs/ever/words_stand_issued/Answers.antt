use Rattle.law_words_issued.proofs.ever.words_stand_issued.Goals as goal
use Rattle.law_words_issued.proofs.ever.ByKind.{steps_stand_issued, deliveries_stand_issued}

pub returns : goal.returns
returns c = record { steps = steps_stand_issued; deliveries = deliveries_stand_issued }
