-- What contracts see of an owned type of the code.
use Rattle.fr_typing.specs.Kinds.{Owned, unit, int, box, mutex, task}
use Rattle.fr_types.specs.declared.types.O.{O}
use Rattle.fr_types.specs.declared.types.O.TheVariants.{Unit, Int, Box', Mutex', Task'}

abbrev pub owned_of : O → Owned
owned_of Unit = unit
owned_of Int = int
owned_of (Box' p o) = box (owned_of o)
owned_of (Mutex' p o) = mutex (owned_of o)
owned_of (Task' p o) = task (owned_of o)
