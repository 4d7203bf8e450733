use Rattle.std.proofs.Common.{take}
use Rattle.fr_types.specs.Lent.{reference, IsLent}
use Rattle.fr_types.proofs.loans.lend_all.Given as goal

abbrev pub invariant-places : goal.invariant-places
invariant-places l = IsLent l.initial.loans.items l.loans.items (reference l.mutable (take l.at l.us))
