use Rattle.std.proofs.Common.{sym, ◌∙◌}
use Rattle.fr_types.proofs.ShapeNodeLemmas.{around_none, around_some}
use Rattle.fr_types.proofs.shape_table.ShapeTable.around.Goals as goal

pub returns-in_err-inner : goal.returns-in_err-inner
returns-in_err-inner c = λ o is.
    c.from_residual.ensures ∙ around_none c.self.inside.nodes.items c.args.self.now c.args.sort o c.self.invariant c.self.view_is (sym is ∙ c.in_err-inner.was)

pub returns : goal.returns
returns c = λ o is. c.find.ensures ∙ around_some c.args.self.now c.args.sort o c.in_ok-inner.field-0 (sym is ∙ c.in_ok-inner.was)
