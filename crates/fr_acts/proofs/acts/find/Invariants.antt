use Rattle.std.proofs.Common.{◌≡◌, ◌≤◌, ◌+◌, Some}
use Rattle.fr_plain.specs.State.{stars}
use Rattle.fr_acts.specs.Acting.{state, spot_of}
use Rattle.fr_acts.proofs.acts.find.Given as goal

abbrev pub invariant-stars : goal.invariant-stars
invariant-stars l = record {
  leads : stars (state l.fn.thread l.slots l.heap.heap) l.fn.place.slot l.star ≡ Some (record { spot = spot_of l.spot; passed = l.labels.items });
  spare : l.initial.labels.spare ≤ l.labels.spare + l.star;
}
