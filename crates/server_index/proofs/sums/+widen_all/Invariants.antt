use Rattle.std.proofs.Common.{length}
use Rattle.server_index.proofs.sums.+widen_all.Given as goal

-- each call is of one level less
abbrev pub decreases-widen_all : goal.decreases-widen_all
decreases-widen_all l = length l.above.now
