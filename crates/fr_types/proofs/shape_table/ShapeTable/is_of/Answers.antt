use Rattle.std.proofs.Common.{◌∙◌}
use Rattle.fr_typing.specs.Places.{owned_shape}
use Rattle.fr_types.specs.OwnedTypes.{owned_of}
use Rattle.fr_types.proofs.ShapeTableLemmas.{same_as}
use Rattle.fr_types.proofs.shape_table.ShapeTable.is_of.Goals as goal

pub returns : goal.returns
returns c = c.same.ensures ∙ same_as c.args.self.now (owned_shape (owned_of c.args.o.now)) c.args.m c.number_of.result c.number_of.ensures
