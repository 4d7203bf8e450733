use Rattle.std.proofs.Common.{sym, ap, ◌∙◌, subst, arith}
use Rattle.fr_types.specs.ShapeTables.{shape_of_no, IsNumber}
use Rattle.fr_types.specs.SlotShapes.{slot_shape, shapes_by}
use Rattle.fr_types.proofs.NumberedLemmas.{slot_number, is_number, none_under, star_under}
use Rattle.fr_types.proofs.numbered.number_of.Goals as goal

pub stars-init : goal.stars-init
stars-init c = record {
  here = subst (IsNumber c.args.table.now) (sym c.entry-number.ensures) (is_number c.args.table.now c.args.numbers.now c.args.u.slot c.requires.numbers);
  shape = ap (shape_of_no c.args.table.now) c.entry-number.ensures ∙ slot_number c.args.table.now c.args.numbers.now c.args.u.slot;
}

pub returns-in_err-number-clause-shape : goal.returns-in_err-number-clause-shape
returns-in_err-number-clause-shape c =
    ap (shape_of_no c.args.table.now) c.from_residual.ensures
    ∙ none_under (slot_shape (shapes_by c.args.table.now c.args.numbers.now) c.args.u.slot) c.stars.counter c.args.u.depth (omega arith)
    (ap (shape_of_no c.args.table.now) (sym c.in_err-number.was) ∙ c.stars.invariant.shape)

pub stars-preserved : goal.stars-preserved
stars-preserved c = record {
  here = c.inner-number.ensures.here;
  shape = star_under c.args.table.now (slot_shape (shapes_by c.args.table.now c.args.numbers.now) c.args.u.slot) c.stars.counter c.in_ok-number.field-0 c.stars.number c.inner-number.result c.stars.invariant.shape c.in_ok-number.was c.inner-number.ensures.shape;
}
