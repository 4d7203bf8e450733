use Rattle.std.proofs.Common.{length}
use Rattle.rank_map.specs.Places.{entries}
use Rattle.server_index.proofs.MarkSetLemmas.{IsComing}
use Rattle.server_index.proofs.marks.come_back.Given as goal

abbrev pub invariant-marks : goal.invariant-marks
invariant-marks l = IsComing l.initial.ranks l.few.items l.ranks

abbrev pub decreases-marks : goal.decreases-marks
decreases-marks l = length (entries l.ranks)
