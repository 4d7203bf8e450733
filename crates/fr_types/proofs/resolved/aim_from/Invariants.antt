use Rattle.std.proofs.Common.{◌≡◌, ℕ, ◌≤◌, length}
use Rattle.fr_types.specs.Inside.{newest}
use Rattle.fr_types.specs.Bases.{target_at, AreLow, AreAimedBelow}
use Rattle.fr_types.proofs.resolved.aim_from.Given as goal

abbrev pub invariant-slots : goal.invariant-slots
invariant-slots l = record {
  low : AreLow l.targets.items;
  same : length l.targets.items ≡ length l.initial.targets.items;
  right : AreAimedBelow l.at (newest l.slots) l.targets.items;
  above : (x : ℕ) → l.at ≤ x → target_at l.targets.items x ≡ target_at l.initial.targets.items x;
}
