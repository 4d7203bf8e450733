use Rattle.std.proofs.Common.{length}
use Rattle.cluster_core.proofs.standing.+are_over.Given as goal

abbrev pub decreases-are_over : goal.decreases-are_over
decreases-are_over l = length l.servers.now
