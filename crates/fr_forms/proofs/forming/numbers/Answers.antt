use Rattle.std.proofs.Common.{◌++◌, ◌∷◌, [], ◌∙◌, ap}
use Rattle.fr_forms.proofs.NodeLemmas.{taken_next}
use Rattle.fr_forms.proofs.forming.numbers.Goals as goal

pub nodes-preserved : goal.nodes-preserved
nodes-preserved c =
    c.in_ok-push.ensures.items ∙ ap (λ l. l ++ c.in-Some.node.now ∷ []) c.nodes.invariant ∙ taken_next c.args.nodes.now.items c.nodes.next c.in-Some.node.now c.in-Some.ensures
