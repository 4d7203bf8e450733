-- What was read.
use Rattle.std.specs.Prelude.{◌≡◌, ℕ, List, Option, ⊤, Some, None}

-- the source of bytes had these left, where it tells that
abbrev pub IsInput : List ℕ → Option (List ℕ) → Type 0
IsInput bytes None = ⊤
IsInput bytes (Some all) = all ≡ bytes
