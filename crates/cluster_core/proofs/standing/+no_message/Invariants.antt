use Rattle.std.proofs.Common.{length}
use Rattle.cluster_core.proofs.standing.+no_message.Given as goal

abbrev pub decreases-no_message : goal.decreases-no_message
decreases-no_message l = length l.servers.now
