use Rattle.std.proofs.Common.{length, ap, subst, arith}
use Rattle.fr_types.specs.ShapeTables.{AreDifferent}
use Rattle.fr_types.specs.ShapeNodes.{shapes_of}
use Rattle.fr_types.proofs.ShapeTableLemmas.{are_different}
use Rattle.fr_types.proofs.ShapeNodeLemmas.{length_shapes}
use Rattle.fr_types.proofs.shape_table.ShapeTable.len.Goals as goal

pub returns-clause-len : goal.returns-clause-len
returns-clause-len c = let same = ap length c.self.view_is in omega (arith, length_shapes c.self.inside.nodes.items)

pub returns-clause-different : goal.returns-clause-different
returns-clause-different c = subst AreDifferent c.self.view_is (are_different (shapes_of c.self.inside.nodes.items) c.self.invariant.different)
