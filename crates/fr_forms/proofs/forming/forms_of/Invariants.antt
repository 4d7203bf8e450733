use Rattle.std.proofs.Common.{◌≡◌, length}
use Rattle.fr_forms.specs.Resolved.{IsBuilt}
use Rattle.fr_forms.proofs.forming.forms_of.Given as goal

abbrev pub invariant-nodes : goal.invariant-nodes
invariant-nodes l = record {
  built : IsBuilt l.checked l.forms.items l.counts.items;
  so_many : length l.forms.items ≡ l.at;
}
