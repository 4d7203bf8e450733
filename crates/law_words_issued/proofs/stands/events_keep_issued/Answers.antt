use Rattle.law_words_issued.proofs.stands.events_keep_issued.Goals as goal
use Rattle.law_words_issued.proofs.stands.Plain.{steps_keep_issued}
use Rattle.law_words_issued.proofs.stands.Delivered.{deliveries_keep_issued}

pub returns : goal.returns
returns c = record { steps = steps_keep_issued; deliveries = deliveries_keep_issued }
