-- Places by rising key, each with an item or free for one (this project's own).
use Rattle.std.specs.Prelude.{ℕ, ◌+◌, ◌≤◌, ◌==◌, nat_lt, Bool, is_some, if◌then◌else◌, List, [], ◌∷◌, Option, Some, None}

pub record Place (T : Type 0) : Type 0 where
  pub key : ℕ
  pub item : Option T

-- the place of a key: its item, or none where it is free; None where there is no such place
abbrev pub place_at : {T : Type 0} → List (Place T) → ℕ → Option (Option T)
place_at [] k = None
place_at (p ∷ ps) k = if p.key == k then Some p.item else place_at ps k

abbrev pub has_place : {T : Type 0} → List (Place T) → ℕ → Bool
has_place ps k = is_some (place_at ps k)

abbrev pub item_in : {T : Type 0} → Option (Option T) → Option T
item_in None = None
item_in (Some x) = x

-- the item of a key, where it has one
abbrev pub item_at : {T : Type 0} → List (Place T) → ℕ → Option T
item_at ps k = item_in (place_at ps k)

-- a place before others, or none
abbrev pub put_first : {T : Type 0} → ℕ → Option (Option T) → List (Place T) → List (Place T)
put_first k None ps = ps
put_first k (Some x) ps = record { key = k; item = x } ∷ ps

-- the places where that of one key is another one, or gone
abbrev pub with_place : {T : Type 0} → List (Place T) → ℕ → Option (Option T) → List (Place T)
with_place [] k new = put_first k new []
with_place (p ∷ ps) k new = if nat_lt k p.key then put_first k new (p ∷ ps) else (if p.key == k then put_first k new ps else p ∷ with_place ps k new)

-- the same with a free place for a key that had none
abbrev pub with_free : {T : Type 0} → List (Place T) → ℕ → List (Place T)
with_free ps k = if has_place ps k then ps else with_place ps k (Some None)

pub record Entry (T : Type 0) : Type 0 where
  pub key : ℕ
  pub item : T

abbrev pub entry_first : {T : Type 0} → ℕ → Option T → List (Entry T) → List (Entry T)
entry_first k None es = es
entry_first k (Some x) es = record { key = k; item = x } ∷ es

-- the items with their keys, by rising key
abbrev pub entries : {T : Type 0} → List (Place T) → List (Entry T)
entries [] = []
entries (p ∷ ps) = entry_first p.key p.item (entries ps)

-- one item, or none
abbrev pub count_of : {T : Type 0} → Option T → ℕ
count_of None = 0
count_of (Some x) = 1

-- the keys rise, from the lower bound on and below the upper one
abbrev pub Rises : {T : Type 0} → ℕ → ℕ → List (Place T) → Type 0
Rises low high [] = low ≤ high
Rises low high (p ∷ ps) = (low ≤ p.key) × Rises (p.key + 1) high ps
