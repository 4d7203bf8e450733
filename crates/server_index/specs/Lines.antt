-- Items in slots in the order in which they came, and the marks beside them (this project's own).
use Rattle.std.specs.Prelude.{◌≡◌, ℕ, ◌^◌, ◌≤◌, List, [], ◌∷◌, length, map, drop, Option, Some, None}
use Rattle.rank_map.specs.Places.{count_of}
use Rattle.server_index.specs.Ranks.{marks}

-- an item before others, or none
abbrev pub item_first : {T : Type 0} → Option T → List T → List T
item_first None xs = xs
item_first (Some x) xs = x ∷ xs

-- the items in slots, in order
abbrev pub values : {T : Type 0} → List (Option T) → List T
values [] = []
values (s ∷ ss) = item_first s (values ss)

-- a slot is marked exactly where it has an item, and from the next one on none has one
pub record IsLine {T : Type 0} (states : List ℕ) (slots : List (Option T)) (next : ℕ) : Type 0 where
  pub marked : marks states ≡ map count_of slots
  pub within : next ≤ length slots
  pub free : values (drop next slots) ≡ []
  pub few : length slots ≤ 2 ^ 32
