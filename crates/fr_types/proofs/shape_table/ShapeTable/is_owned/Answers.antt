use Rattle.std.proofs.Common.{length, ap, ◌∙◌, arith}
use Rattle.fr_types.proofs.ShapeNodeLemmas.{length_shapes, owned_seen}
use Rattle.fr_types.proofs.shape_table.ShapeTable.is_owned.Goals as goal

pub index-requires : goal.index-requires
index-requires c = let same = ap length c.self.view_is in omega (arith, length_shapes c.self.inside.nodes.items)

pub returns : goal.returns
returns c =
    c.is_owned.ensures
    ∙ owned_seen c.self.inside.nodes.items c.args.self.now c.args.no c.index.result.now c.self.invariant c.self.view_is c.requires.here c.index.ensures
