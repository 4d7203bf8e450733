use Rattle.std.proofs.Common.{◌≡◌, ◌+◌}
use Rattle.server_index.specs.Sums.{before}
use Rattle.server_index.proofs.sums.scan.Given as goal

-- what was taken off and what is left are the rank
abbrev pub invariant-counts : goal.invariant-counts
invariant-counts l = before l.fn.level l.at + l.left ≡ before l.fn.level l.fn.first + l.fn.rest
