use Rattle.std.proofs.Common.{◌≡◌, ◌<◌}
use Rattle.std.specs.Vec.{vec_len}
use Rattle.server_index.specs.Lists.{lists}
use Rattle.server_index.specs.Sums.{AreAbove, counts}
use Rattle.server_index.proofs.sums.raise.Given as goal

-- levels above the same counts, one more each time
abbrev pub invariant-levels : goal.invariant-levels
invariant-levels l = (vec_len l.levels ≡ l.at) × (0 < l.at) × AreAbove (lists l.levels.items) × (counts (lists l.levels.items) ≡ counts (lists l.fn.levels.items))
