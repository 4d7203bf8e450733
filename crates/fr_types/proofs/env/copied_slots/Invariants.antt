use Rattle.std.proofs.Common.{◌≡◌, take}
use Rattle.fr_types.specs.Inside.{newest}
use Rattle.fr_types.proofs.env.copied_slots.Given as goal

abbrev pub invariant-slots : goal.invariant-slots
invariant-slots l = newest l.made.items ≡ newest (take l.at l.slots)
