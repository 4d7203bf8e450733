-- What contracts see of an owned type that may be missing.
use Rattle.std.specs.Prelude.{Option, Some, None}
use Rattle.fr_typing.specs.Kinds.{Owned}
use Rattle.fr_types.specs.declared.types.O.{O}
use Rattle.fr_types.specs.OwnedTypes.{owned_of}

abbrev pub owned_in : Option O → Option Owned
owned_in None = None
owned_in (Some o) = Some (owned_of o)
