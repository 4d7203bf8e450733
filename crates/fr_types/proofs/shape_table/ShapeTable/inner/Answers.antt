use Rattle.std.proofs.Common.{length, ap, ◌∙◌, arith}
use Rattle.fr_types.specs.ShapeTables.{shape_of_no}
use Rattle.fr_types.proofs.ShapeNodeLemmas.{length_shapes, inner_seen, inner_there}
use Rattle.fr_types.proofs.shape_table.ShapeTable.inner.Goals as goal

pub index-requires : goal.index-requires
index-requires c = let same = ap length c.self.view_is in omega (arith, length_shapes c.self.inside.nodes.items)

pub returns-clause-shape : goal.returns-clause-shape
returns-clause-shape c =
    ap (shape_of_no c.args.self.now) c.inner.ensures
    ∙ inner_seen c.self.inside.nodes.items c.args.self.now c.args.no c.index.result.now c.self.invariant c.self.view_is c.requires.here c.index.ensures

pub returns-clause-here : goal.returns-clause-here
returns-clause-here c = inner_there c.self.inside.nodes.items c.args.self.now c.args.no c.index.result.now c.inner.result c.self.invariant c.self.view_is c.requires.here c.index.ensures c.inner.ensures
