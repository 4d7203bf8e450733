use Rattle.std.proofs.Common.{ap, ◌∙◌}
use Rattle.fr_syntax.specs.Arena.{Arena}
use Rattle.fr_syntax.specs.Meanings.{meanings}
use Rattle.fr_syntax.proofs.TreeLemmas.{name_kept}
use Rattle.fr_syntax.proofs.tree.Tree.add_name.Goals as goal

pub invariant_of-self-2 : goal.invariant_of-self-2
invariant_of-self-2 c = (name_kept c.self.inside.names.items _ c.in_ok-owned.owned _ c.self.invariant c.in_ok-push.ensures.items).0

pub returns-clause-meanings : goal.returns-clause-meanings
returns-clause-meanings c = (name_kept c.self.inside.names.items _ c.in_ok-owned.owned _ c.self.invariant c.in_ok-push.ensures.items).1 ∙ ap (λ (a : Arena). meanings a) c.self.view_is
