use Rattle.std.proofs.Common.{length}
use Rattle.drust_run.proofs.turns.+turns.Given as goal

abbrev pub decreases-take_turns : goal.decreases-take_turns
decreases-take_turns g l = length l.servers.now
