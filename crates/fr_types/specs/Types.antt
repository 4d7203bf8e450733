-- What contracts see of a type and of a part of the code.
use Rattle.fr_typing.specs.Kinds.{unit, int, box, mutex, task, Kind, own, shared, mutable, view, Piece, whole, gone, boxed}
use Rattle.fr_types.specs.declared.types.Ty.{Ty}
use Rattle.fr_types.specs.declared.types.Ty.TheVariants.{Unit, Int, Box, Mutex, Task, Shared, Mut, View}
use Rattle.fr_types.specs.declared.types.Part.{Part}
use Rattle.fr_types.specs.declared.types.Part.TheVariants.{Whole, Gone, Box'}
use Rattle.fr_types.specs.OwnedTypes.{owned_of}

abbrev pub kind_of : Ty → Kind
kind_of Unit = own unit
kind_of Int = own int
kind_of (Box o) = own (box (owned_of o))
kind_of (Mutex o) = own (mutex (owned_of o))
kind_of (Task o) = own (task (owned_of o))
kind_of (Shared us) = shared us
kind_of (Mut us) = mutable us
kind_of (View o) = view (owned_of o)

abbrev pub piece_of : Part → Piece
piece_of (Whole t) = whole (kind_of t)
piece_of (Gone t) = gone (kind_of t)
piece_of (Box' p q) = boxed (piece_of q)
