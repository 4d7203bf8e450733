use Rattle.std.proofs.Common.{length}
use Rattle.cluster_core.proofs.waiting.+waits_of.Given as goal

abbrev pub decreases-waits_of : goal.decreases-waits_of
decreases-waits_of l = length l.servers.now
