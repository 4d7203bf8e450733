use Rattle.std.proofs.Common.{length}
use Rattle.controller.proofs.loads.+greatest.Given as goal

abbrev pub decreases-greatest : goal.decreases-greatest
decreases-greatest l = length l.loads.now
