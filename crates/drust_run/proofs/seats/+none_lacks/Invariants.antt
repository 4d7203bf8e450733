use Rattle.std.proofs.Common.{length}
use Rattle.drust_run.proofs.seats.+none_lacks.Given as goal

abbrev pub decreases-none_lacks : goal.decreases-none_lacks
decreases-none_lacks l = length l.desks.now
