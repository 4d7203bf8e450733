use Rattle.std.proofs.Common.{◌≡◌}
use Rattle.fr_typing.specs.Places.{stars_shape}
use Rattle.fr_types.specs.ShapeTables.{shape_of_no, IsNumber}
use Rattle.fr_types.specs.SlotShapes.{slot_shape, shapes_by}
use Rattle.fr_types.proofs.numbered.number_of.Given as goal

abbrev pub invariant-stars : goal.invariant-stars
invariant-stars l = record {
  here : IsNumber l.table l.number;
  shape : shape_of_no l.table l.number ≡ stars_shape l.counter (slot_shape (shapes_by l.table l.numbers) l.fn.u.slot);
}
