use Rattle.std.proofs.Common.{length}
use Rattle.cluster_core.proofs.row.+events_of.Given as goal

abbrev pub decreases-events_of : goal.decreases-events_of
decreases-events_of l = length l.servers.now
