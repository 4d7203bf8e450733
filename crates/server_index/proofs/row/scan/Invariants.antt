use Rattle.std.proofs.Common.{◌≡◌, ◌+◌}
use Rattle.server_index.specs.Sums.{before}
use Rattle.server_index.specs.Ranks.{marks}
use Rattle.server_index.proofs.row.scan.Given as goal

-- what was taken off and what is left are the rank
abbrev pub invariant-states : goal.invariant-states
invariant-states l = before (marks l.fn.states) l.at + l.left ≡ before (marks l.fn.states) l.fn.first + l.fn.rest
