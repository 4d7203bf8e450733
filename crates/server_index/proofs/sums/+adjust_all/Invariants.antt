use Rattle.std.proofs.Common.{length}
use Rattle.server_index.proofs.sums.+adjust_all.Given as goal

-- each call is of one level less
abbrev pub decreases-adjust_all : goal.decreases-adjust_all
decreases-adjust_all l = length l.above.now
