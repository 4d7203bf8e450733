use Rattle.std.proofs.Common.{ap}
use Rattle.fr_typing.specs.Places.{piece_shape}
use Rattle.fr_types.specs.declared.types.Part.{Part}
use Rattle.fr_types.specs.Types.{kind_of, piece_of}
use Rattle.fr_types.specs.SlotShapes.{place_shape, shapes_by}
use Rattle.fr_types.proofs.NumberedLemmas.{part_comm}
use Rattle.fr_types.proofs.numbered.+same_parts.Goals as goal

pub returns-in-Whole-default : goal.returns-in-Whole-default
returns-in-Whole-default t c =
    part_comm (place_shape (shapes_by c.args.table.now c.args.numbers.now)) (piece_of c.args.p.now) (piece_of c.args.q.now) (kind_of c.in-Whole-default.t) c.fits.result
    (ap (λ (x : Part). piece_shape (place_shape (shapes_by c.args.table.now c.args.numbers.now)) (piece_of x)) c.in-Whole-default.is-0) c.fits.ensures

pub returns-in-Gone-default : goal.returns-in-Gone-default
returns-in-Gone-default t c =
    part_comm (place_shape (shapes_by c.args.table.now c.args.numbers.now)) (piece_of c.args.p.now) (piece_of c.args.q.now) (kind_of c.in-Gone-default.t) c.fits-in-Gone-default.result
    (ap (λ (x : Part). piece_shape (place_shape (shapes_by c.args.table.now c.args.numbers.now)) (piece_of x)) c.in-Gone-default.is-0) c.fits-in-Gone-default.ensures
