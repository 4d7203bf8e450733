use Rattle.std.proofs.Common.{length}
use Rattle.cluster_core.proofs.sending.+count_sent.Given as goal

abbrev pub decreases-count_sent : goal.decreases-count_sent
decreases-count_sent l = length l.servers.now
