-- What an instruction needs of a place, as the definitions have it.
use Rattle.std.specs.Prelude.{Option, Some, None}
use Rattle.server_model.specs.Prepare.{Access, ReadTo, ReadPointer, WriteTo, LendTo, EndRef}
use Rattle.server_parts.specs.Spots.{spot}
use Rattle.server_parts.specs.declared.access.Access.{Access as Made}
use Rattle.server_parts.specs.declared.access.Access.TheVariants as made

-- the need of a place
abbrev pub access : Made → Access
access (made.ReadTo w) = ReadTo w
access (made.ReadPointer w) = ReadPointer w
access (made.WriteTo w) = WriteTo w
access (made.LendTo w) = LendTo w
access (made.EndRef s) = EndRef (spot s)

-- where there is one
abbrev pub access_in : Option Made → Option Access
access_in None = None
access_in (Some a) = Some (access a)
