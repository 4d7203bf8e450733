use Rattle.std.proofs.Common.{◌+◌, ◌^◌, ◌≤◌}
use Rattle.server_index.proofs.sums.levels_of.Given as goal

-- the top falls by one at least where the levels rise by one
abbrev pub invariant-levels : goal.invariant-levels
invariant-levels l = l.levels + l.top ≤ 2 ^ 64

abbrev pub decreases-levels : goal.decreases-levels
decreases-levels l = l.top
