use Rattle.std.proofs.Common.{◌≡◌, ◌^◌, length}
use Rattle.rank_map.specs.Places.{Rises}
use Rattle.server_index.specs.MarkSets.{lit, HavePlaces}
use Rattle.server_index.proofs.marks.spill.Given as goal

-- what is seen stays
abbrev pub invariant-marks : goal.invariant-marks
invariant-marks l = (lit l.few.items l.ranks ≡ lit l.initial.few.items l.initial.ranks) × Rises 0 (2 ^ 40) l.ranks × HavePlaces l.few.items l.ranks

abbrev pub decreases-marks : goal.decreases-marks
decreases-marks l = length l.few.items
