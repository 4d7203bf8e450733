use Rattle.std.proofs.Common.{length}
use Rattle.controller.proofs.loads.+least.Given as goal

abbrev pub decreases-least : goal.decreases-least
decreases-least l = length l.loads.now
