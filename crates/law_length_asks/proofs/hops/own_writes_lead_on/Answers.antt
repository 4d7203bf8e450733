use Rattle.law_length_asks.proofs.hops.own_writes_lead_on.Goals as goal
use Rattle.law_length_asks.proofs.hops.Writes.{own_writes}

pub returns : goal.returns
returns c = own_writes
