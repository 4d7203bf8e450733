use Rattle.std.proofs.Common.{take}
use Rattle.fr_types.specs.Lent.{reference, IsLent}
use Rattle.fr_types.proofs.loans.give_back_all.Given as goal

abbrev pub invariant-places : goal.invariant-places
invariant-places l = IsLent l.loans.items l.initial.loans.items (reference l.mutable (take l.at l.us))
