use Rattle.std.proofs.Common.{ap}
use Rattle.fr_base.specs.declared.place.Lval.{Lval}
use Rattle.fr_types.specs.OwnedTypes.{owned_of}
use Rattle.fr_types.specs.Types.{kind_of}
use Rattle.fr_types.specs.SlotShapes.{place_shape, shapes_by}
use Rattle.fr_types.proofs.NumberedLemmas.{view_shared}
use Rattle.fr_types.proofs.numbered.same_types.Goals as goal

-- what stands for a place past the end
abbrev none : Lval
none = record { slot = 0; depth = 0 }

pub returns-in-View-Shared : goal.returns-in-View-Shared
returns-in-View-Shared c =
    view_shared (place_shape (shapes_by c.args.table.now c.args.numbers.now)) (kind_of c.args.a.now) (kind_of c.args.b.now) c.in-View-Shared.us c.as_slice-in-View-Shared.result.now none (owned_of c.in-View-Shared.o) c.is_of-in-View-Shared.result
    (ap kind_of c.in-View-Shared.is-0) (ap kind_of c.in-View-Shared.is-1) c.as_slice-in-View-Shared.ensures.same c.as_slice-in-View-Shared.ensures.set.some c.is_of-in-View-Shared.ensures
