use Rattle.std.proofs.Common.{subst}
use Rattle.fr_types.proofs.ShapeTableLemmas.{IsOnce, same_of_numbers}
use Rattle.fr_types.proofs.shape_table.ShapeTable.same.Goals as goal

pub returns-in-Some-Some : goal.returns-in-Some-Some
returns-in-Some-Some c = same_of_numbers c.args.self.now c.in-Some-Some.m c.in-Some-Some.n c.args.m c.args.n (subst IsOnce c.self.view_is c.self.invariant.different) c.requires.here c.in-Some-Some.is-0 c.in-Some-Some.is-1
