use Rattle.fr_typing.specs.Kinds.{int}
use Rattle.fr_typing.specs.Places.{owned_shape}
use Rattle.fr_types.proofs.ShapeTableLemmas.{shape_no_below}
use Rattle.fr_types.proofs.shape_table.ShapeTable.+add_owned.Goals as goal

pub returns-in-Int-clause-here : goal.returns-in-Int-clause-here
returns-in-Int-clause-here t c = shape_no_below c.begin.new.self 1 (owned_shape int) c.in_ok-begin.ensures.int
