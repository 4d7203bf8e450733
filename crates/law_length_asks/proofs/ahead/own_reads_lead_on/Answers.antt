use Rattle.law_length_asks.proofs.ahead.own_reads_lead_on.Goals as goal
use Rattle.law_length_asks.proofs.ahead.Asks.{own_reads}

pub returns : goal.returns
returns c = own_reads
