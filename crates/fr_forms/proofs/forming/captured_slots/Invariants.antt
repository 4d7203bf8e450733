use Rattle.std.proofs.Common.{◌≡◌, take}
use Rattle.fr_forms.specs.Forming.{captured_all}
use Rattle.fr_forms.proofs.forming.captured_slots.Given as goal

abbrev pub invariant-names : goal.invariant-names
invariant-names l = l.captures.items ≡ captured_all l.checked (take l.next l.names.items)
