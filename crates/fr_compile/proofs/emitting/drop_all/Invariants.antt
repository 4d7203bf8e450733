use Rattle.std.proofs.Common.{◌≡◌, ◌++◌}
use Rattle.fr_compile.specs.Emitting.{drop_slots}
use Rattle.fr_compile.proofs.emitting.drop_all.Given as goal

abbrev pub invariant-slots : goal.invariant-slots
invariant-slots l = l.code.items ≡ l.initial.code.items ++ drop_slots l.counter
