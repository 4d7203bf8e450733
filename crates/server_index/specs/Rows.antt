-- The places that rows of entries tell (this project's own).
use Rattle.std.specs.Prelude.{◌≡◌, ℕ, ◌+◌, ◌^◌, ◌≤◌, ⊤, List, [], ◌∷◌, ◌++◌, length, replicate, Option}
use Rattle.rank_map.specs.Places.{Place, put_first}

-- the places of a row's entries, of which the first is that key's; the function says which place an entry tells
abbrev pub row_places : {T : Type 0} → (ℕ → Option (Option T)) → ℕ → List ℕ → List (Place T)
row_places told first [] = []
row_places told first (e ∷ es) = put_first first (told e) (row_places told (first + 1) es)

-- the places of rows, each of 2^32 keys
abbrev pub places_from : {T : Type 0} → (ℕ → Option (Option T)) → ℕ → List (List ℕ) → List (Place T)
places_from told first [] = []
places_from told first (r ∷ rs) = row_places told first r ++ places_from told (first + 2 ^ 32) rs

-- no row has more columns than there are keys with the same higher bits
abbrev pub AreShort : List (List ℕ) → Type 0
AreShort [] = ⊤
AreShort (r ∷ rs) = (length r ≤ 2 ^ 32) × AreShort rs

-- rows with more behind them that have no column
abbrev pub Longer : List (List ℕ) → List (List ℕ) → Type 0
Longer old new = (n : ℕ) × (new ≡ old ++ replicate n [])
