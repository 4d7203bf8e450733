-- What answers of the code say.
use Rattle.std.specs.Prelude.{◌≡◌, ⊤, Option, Some, None, Result, Ok, Err}
use Rattle.fr_typing.specs.Kinds.{Kind, Piece}
use Rattle.fr_typing.specs.Places.{Found, found, undefined, no_target}
use Rattle.fr_types.specs.declared.types.Ty.{Ty}
use Rattle.fr_types.specs.declared.types.Part.{Part}
use Rattle.fr_types.specs.declared.error.TypeError.{TypeError}
use Rattle.fr_types.specs.declared.error.TypeError.TheVariants.{NotDefined, NoTarget, NoMemory}
use Rattle.fr_types.specs.Types.{kind_of, piece_of}

abbrev pub kind_in : Option Ty → Option Kind
kind_in None = None
kind_in (Some t) = Some (kind_of t)

abbrev pub piece_in : Option Part → Option Piece
piece_in None = None
piece_in (Some p) = Some (piece_of p)

-- the answer is what is found, or memory ran out
abbrev pub IsFound : Result Part TypeError → Found → Type 0
IsFound (Ok p) f = f ≡ found (piece_of p)
IsFound (Err NotDefined) f = f ≡ undefined
IsFound (Err NoTarget) f = f ≡ no_target
IsFound (Err NoMemory) f = ⊤
