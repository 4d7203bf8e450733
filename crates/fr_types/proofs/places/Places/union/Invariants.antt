use Rattle.std.proofs.Common.{◌≡◌, ◌≤◌, length, drop}
use Rattle.fr_typing.specs.Kinds.{union}
use Rattle.fr_types.specs.Rising.{IsPlaceSet}
use Rattle.fr_types.proofs.places.Places.union.Given as goal

abbrev pub invariant-places : goal.invariant-places
invariant-places l = record {
  left : l.left ≤ length l.self-inside.items.items;
  set : IsPlaceSet l.items.items;
  same : l.items.items ≡ union (drop l.left l.self-inside.items.items) l.other;
}

abbrev pub decreases-places : goal.decreases-places
decreases-places l = l.left
