use Rattle.std.proofs.Common.{◌≡◌, ◌++◌, drop}
use Rattle.fr_compile.proofs.Captured.{listed}
use Rattle.fr_compile.proofs.emitting.list_captures.Given as goal

abbrev pub invariant-slots : goal.invariant-slots
invariant-slots l = l.list.items ++ listed (drop l.next-index l.captures) ≡ listed l.captures
