-- When two types are owned and equal.
use Rattle.std.specs.Prelude.{Bool, false}
use Rattle.fr_typing.specs.Kinds.{same_owned, Kind, own}

-- both are owned types, and equal
abbrev pub same_kind : Kind → Kind → Bool
same_kind (own a) (own b) = same_owned a b
same_kind _ _ = false
