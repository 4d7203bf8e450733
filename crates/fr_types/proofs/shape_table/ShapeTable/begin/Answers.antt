use Rattle.std.proofs.Common.{◌<◌, length, arith}
use Rattle.std.proofs.lemmas.Bool.Decides.{nat_tests}
use Rattle.fr_types.proofs.ShapeNodeLemmas.{unit_shape, int_shape}
use Rattle.fr_types.proofs.shape_table.ShapeTable.begin.Goals as goal

some : (c : goal.Then-not-is_empty) → 0 < length c.self.inside.nodes.items
some c =
    let is = c.is_empty.ensures in
    let test = c.if-not-is_empty.true in
    grind (arith, nat_tests, c.self.inside.nodes.ok.0)

pub returns-then-not-is_empty-clause-unit : goal.returns-then-not-is_empty-clause-unit
returns-then-not-is_empty-clause-unit c = unit_shape c.self.inside.nodes.items c.args.self.now c.self.invariant c.self.view_is (some c)

pub returns-then-not-is_empty-clause-int : goal.returns-then-not-is_empty-clause-int
returns-then-not-is_empty-clause-int c = int_shape c.self.inside.nodes.items c.args.self.now c.self.invariant c.self.view_is (some c)
