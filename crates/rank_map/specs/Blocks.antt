-- The places of keys that stand side by side, by slots.
use Rattle.std.specs.Prelude.{◌≡◌, ℕ, ◌+◌, ◌^◌, ◌≤◌, List, [], ◌∷◌, Option, length}
use Rattle.rank_map.specs.Places.{Place, put_first, entries}

pub record BlockView (T : Type 0) : Type 0 where
  pub first : ℕ
  pub places : List (Place T)

-- the places that stand in slots, of which the first is that key's
abbrev pub from_slots : {T : Type 0} → ℕ → List (Option (Option T)) → List (Place T)
from_slots first [] = []
from_slots first (s ∷ ss) = put_first first s (from_slots (first + 1) ss)

-- sixteen slots, with their items and places counted
pub record IsBlock {T : Type 0} (first items places : ℕ) (slots : List (Option (Option T))) : Type 0 where
  pub whole : length slots ≡ 16
  pub few : first + 16 ≤ 2 ^ 40
  pub items_count : items ≡ length (entries (from_slots first slots))
  pub places_count : places ≡ length (from_slots first slots)
