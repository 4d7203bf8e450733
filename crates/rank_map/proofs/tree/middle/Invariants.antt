use Rattle.std.proofs.Common.{◌<◌, ◌≤◌}
use Rattle.rank_map.proofs.tree.middle.Given as goal

abbrev pub invariant-zeros : goal.invariant-zeros
invariant-zeros l = (l.fn.low < l.middle) × (l.middle ≤ l.fn.high)

abbrev pub decreases-zeros : goal.decreases-zeros
decreases-zeros l = l.middle
