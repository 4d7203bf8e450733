use Rattle.std.proofs.Common.{◌≡◌, ℕ, ◌+◌, ◌-◌, ◌≤◌, length}
use Rattle.fr_types.specs.Bounds.{most_slots}
use Rattle.fr_types.specs.Bases.{target_at}
use Rattle.fr_types.proofs.env.make_targets.Given as goal

abbrev pub invariant-slots : goal.invariant-slots
invariant-slots l = record {
  same : (at : ℕ) → target_at l.targets.items at ≡ target_at l.initial.targets.items at;
  longer : length l.initial.targets.items ≤ length l.targets.items;
  small : length l.targets.items ≤ most_slots;
}

abbrev pub decreases-slots : goal.decreases-slots
decreases-slots l = l.slot + 1 - length l.targets.items
