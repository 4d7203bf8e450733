use Rattle.law_walks_others.proofs.pointers.followed_stays.Goals as goal
use Rattle.law_walks_others.proofs.pointers.Steady.{steady_followed}

pub returns : goal.returns
returns c = steady_followed
