use Rattle.std.proofs.Common.{length}
use Rattle.server_index.proofs.sums.+find_in.Given as goal

-- each call is of one level less
abbrev pub decreases-find_in : goal.decreases-find_in
decreases-find_in l = length l.above.now
