use Rattle.std.proofs.Common.{length}
use Rattle.cluster_core.proofs.standing.+are_stopped.Given as goal

abbrev pub decreases-are_stopped : goal.decreases-are_stopped
decreases-are_stopped l = length l.servers.now
