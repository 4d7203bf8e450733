use Rattle.std.proofs.Common.{◌≡◌, ◌+◌, ◌<◌, ◌^◌, drop}
use Rattle.fr_forms.specs.Forming.{count_all}
use Rattle.fr_forms.proofs.forming.variables.Given as goal

abbrev pub invariant-nodes : goal.invariant-nodes
invariant-nodes l = count_all l.counts l.nodes.items < 2 ^ 32 → l.count + count_all l.counts (drop l.next l.nodes.items) ≡ count_all l.counts l.nodes.items
