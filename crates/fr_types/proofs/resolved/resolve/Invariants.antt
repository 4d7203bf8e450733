use Rattle.std.proofs.Common.{◌≡◌, ℕ, ◌+◌, ◌*◌, ◌<◌, ◌≤◌, List}
use Rattle.fr_types.specs.States.{Held}
use Rattle.fr_types.specs.Bases.{base, AreAimedBelow}
use Rattle.fr_types.proofs.resolved.resolve.Given as goal

abbrev pub invariant-stars : goal.invariant-stars
invariant-stars l = record {
  slot : l.at.slot ≤ l.fn.w.slot;
  stars : l.at.stars + 255 * l.at.slot ≤ l.counter + 255 * l.fn.w.slot;
  base : (n : ℕ) (vs : List Held) → l.fn.w.slot < n → AreAimedBelow n vs l.targets → l.at ≡ base vs (record { slot = l.fn.w.slot; stars = l.counter });
}
