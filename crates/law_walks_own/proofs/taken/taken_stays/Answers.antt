use Rattle.law_walks_own.proofs.taken.taken_stays.Goals as goal
use Rattle.law_walks_own.proofs.taken.New.{each_new}
use Rattle.law_walks_own.proofs.taken.AllStand.{each_stands}

pub returns : goal.returns
returns c = record { stands = each_stands; is_new = each_new }
