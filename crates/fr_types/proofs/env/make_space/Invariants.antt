use Rattle.std.proofs.Common.{◌≡◌, ℕ, ◌+◌, ◌-◌, ◌≤◌, length}
use Rattle.fr_types.specs.Lent.{loans_at}
use Rattle.fr_types.proofs.env.make_space.Given as goal

abbrev pub invariant-slots : goal.invariant-slots
invariant-slots l = record {
  same : (at : ℕ) → loans_at l.loans.items at ≡ loans_at l.initial.loans.items at;
  longer : length l.initial.loans.items ≤ length l.loans.items;
}

abbrev pub decreases-slots : goal.decreases-slots
decreases-slots l = l.slot + 1 - length l.loans.items
