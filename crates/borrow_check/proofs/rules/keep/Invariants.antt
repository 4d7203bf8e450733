use Rattle.std.proofs.Common.{◌≡◌, ◌≤◌, ◌-◌, length, drop}
use Rattle.borrow_check.proofs.rules.keep.Given as goal

abbrev pub invariant-slots : goal.invariant-slots
invariant-slots l = record {
  left : l.base ≤ length l.env;
  same : drop (length l.env - l.base) l.env ≡ drop (length l.initial.env - l.base) l.initial.env;
}

abbrev pub decreases-slots : goal.decreases-slots
decreases-slots l = length l.env - l.base
