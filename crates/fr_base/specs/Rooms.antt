-- What contracts see of a list that tells how much room it has (this project's rule).
use Rattle.std.specs.Prelude.{ℕ, List, [], Option, Some, None, Box}
use Rattle.std.specs.declared.alloc.Global.{Global}

pub record WithRoom (X : Type 0) : Type 0 where
  pub items : List X
  -- how many more fit without memory
  pub spare : ℕ

-- a list in its box; where there is none, no item and no room
abbrev pub list_in : {X : Type 0} → Option (Box (WithRoom X) Global) → WithRoom X
list_in None = record { items = []; spare = 0 }
list_in (Some list) = list.value
