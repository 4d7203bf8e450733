-- Items in slots that never move, and the index that tells each key's slot (this project's own).
use Rattle.std.specs.Prelude.{◌≡◌, ℕ, ◌^◌, List, [], ◌∷◌, Option, Some, None, option_map, slice_get, ⊤}
use Rattle.rank_map.specs.Places.{Place, item_at, Rises}
use Rattle.server_index.specs.declared.table.Slot.{Slot}

-- the key of a slot, by its number; None where there is no such slot
abbrev pub key_in : {T : Type 0} → List (Slot T) → Option ℕ → Option ℕ
key_in slots None = None
key_in slots (Some s) = option_map (λ t. t.key) (slice_get slots s)

abbrev pub item_of : {T : Type 0} → Option (Slot T) → Option T
item_of None = None
item_of (Some t) = t.item

-- the item of a slot, where it has one
abbrev pub item_in_slot : {T : Type 0} → List (Slot T) → Option ℕ → Option T
item_in_slot slots None = None
item_in_slot slots (Some s) = item_of (slice_get slots s)

-- the places of the index, each with the item of its slot
abbrev pub placed : {T : Type 0} → List (Slot T) → List (Place ℕ) → List (Place T)
placed slots [] = []
placed slots (p ∷ ps) = record { key = p.key; item = item_in_slot slots p.item } ∷ placed slots ps

-- each place leads to a slot with its key
abbrev pub Leads : {T : Type 0} → List (Slot T) → List (Place ℕ) → Type 0
Leads slots [] = ⊤
Leads slots (p ∷ ps) = (key_in slots p.item ≡ Some p.key) × Leads slots ps

-- the places rise and lead to the slots, and each slot's key leads back to it
pub record IsTable {T : Type 0} (slots : List (Slot T)) (index : List (Place ℕ)) : Type 0 where
  pub rises : Rises 0 (2 ^ 40) index
  pub leads : Leads slots index
  pub back : (s k : ℕ) → key_in slots (Some s) ≡ Some k → item_at index k ≡ Some s
