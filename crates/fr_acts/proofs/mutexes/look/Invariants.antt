use Rattle.std.proofs.Common.{◌≡◌, Some}
use Rattle.fr_plain.specs.State.{stars}
use Rattle.fr_acts.specs.Acting.{state, spot_of}
use Rattle.fr_acts.specs.Behind.{spot_in}
use Rattle.fr_acts.proofs.mutexes.look.Given as goal

abbrev pub invariant-stars : goal.invariant-stars
invariant-stars l = Some (spot_of l.spot) ≡ spot_in (stars (state l.fn.thread l.slots l.heap.heap) l.fn.place.slot l.star)
