use Rattle.std.proofs.Common.{◌≡◌, take}
use Rattle.fr_forms.proofs.forming.numbers.Given as goal

abbrev pub invariant-nodes : goal.invariant-nodes
invariant-nodes l = l.numbers.items ≡ take l.next l.nodes.items
