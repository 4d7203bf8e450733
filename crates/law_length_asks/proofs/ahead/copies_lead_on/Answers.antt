use Rattle.law_length_asks.proofs.ahead.copies_lead_on.Goals as goal
use Rattle.law_length_asks.proofs.ahead.Events.{copies_lead}

pub returns : goal.returns
returns c = copies_lead
