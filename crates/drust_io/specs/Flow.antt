-- What a call of a source or of a sink does (this project's rules).
use Rattle.std.specs.Prelude.{◌≡◌, ℕ, ◌<◌, ◌≤◌, ◌^◌, ◌-◌, ◌⊎◌, ⊤, List, [], ◌++◌, length, Option, Some, None}

-- the count rose, or stands at its last value
abbrev pub Rose : ℕ → ℕ → Type 0
Rose before after = (before < after) ⊎ (after ≡ 2 ^ 64 - 1)

-- these bytes came off the front of what was left, where the source tells that
abbrev pub ComesOff : List ℕ → Option (List ℕ) → Option (List ℕ) → Type 0
ComesOff bytes None after = ⊤
ComesOff bytes (Some all) after = (rest : List ℕ) × (after ≡ Some rest) × (all ≡ bytes ++ rest)

-- nothing is left, where the source tells that
abbrev pub NothingLeft : Option (List ℕ) → Type 0
NothingLeft None = ⊤
NothingLeft (Some rest) = rest ≡ []

-- these bytes were put at the end of what was written, where the sink tells that
abbrev pub GoesOn : List ℕ → Option (List ℕ) → Option (List ℕ) → Type 0
GoesOn bytes None after = ⊤
GoesOn bytes (Some before) after = after ≡ Some (before ++ bytes)

-- so many bytes came off the front of what was left
abbrev pub SomeComeOff : ℕ → Option (List ℕ) → Option (List ℕ) → Type 0
SomeComeOff n before after = (bytes : List ℕ) × (length bytes ≡ n) × ComesOff bytes before after

-- at most so many bytes came off the front of what was left
abbrev pub AtMostComeOff : ℕ → Option (List ℕ) → Option (List ℕ) → Type 0
AtMostComeOff n before after = (bytes : List ℕ) × (length bytes ≤ n) × ComesOff bytes before after
