-- What an index of rows and columns tells (this project's own).
use Rattle.std.specs.Prelude.{ℕ, zero, suc, Option, Some, None}

-- the place that an entry tells: one more than a slot's number, or 0 where there is none
abbrev pub place_in : ℕ → Option (Option ℕ)
place_in zero = None
place_in (suc s) = Some (Some s)
