-- What contracts see of an environment: the last slot first.
use Rattle.std.specs.Prelude.{◌≡◌, ℕ, ◌==◌, Bool, false, ⊤, List, [], ◌∷◌, length, map, slice_index_or, Option, Some, None, if◌then◌else◌}
use Rattle.fr_terms.specs.Terms.{Text}
use Rattle.fr_typing.specs.Kinds.{Piece, gone, own, unit}
use Rattle.fr_typing.specs.Places.{Slot, Env, piece_places, AreBelow}

-- a slot: the number of its name, where it has one, and its part
pub record Held : Type 0 where
  pub name : Option ℕ
  pub part : Piece

-- the names' texts, by number
abbrev pub text_in : List Text → Option ℕ → Option Text
text_in names None = None
text_in names (Some n) = Some (slice_index_or names n [])

-- the environment, with the texts of the names
abbrev pub slot_view : List Text → Held → Slot
slot_view names s = record { name = text_in names s.name; part = s.part }

abbrev pub env_of : List Text → List Held → Env
env_of names vs = map (slot_view names) vs

-- the slot of a name's number
abbrev pub is_named : Option ℕ → ℕ → Bool
is_named None name = false
is_named (Some n) name = n == name

abbrev pub slot_in : List Held → ℕ → Option ℕ
slot_in [] name = None
slot_in (s ∷ below) name = if is_named s.name name then Some (length below) else slot_in below name

-- no slot has the name, where it is one
abbrev pub IsNew : List Held → Option ℕ → Type 0
IsNew vs None = ⊤
IsNew vs (Some name) = slot_in vs name ≡ None

-- the part of a slot; of one that isn't there nobody asks
abbrev pub part_in : List Held → ℕ → Piece
part_in [] slot = gone (own unit)
part_in (s ∷ below) slot = if slot == length below then s.part else part_in below slot

-- the slots with another part at one of them
abbrev pub put_in : List Held → ℕ → Piece → List Held
put_in [] slot p = []
put_in (s ∷ below) slot p = if slot == length below then record s { part = p } ∷ below else s ∷ put_in below slot p

-- each part names only slots below its own (this project's rule)
abbrev pub AreNested : List Held → Type 0
AreNested [] = ⊤
AreNested (s ∷ below) = AreBelow (length below) (piece_places s.part) × AreNested below

-- no two slots have the same name
abbrev pub AreApart : List Held → Type 0
AreApart [] = ⊤
AreApart (s ∷ below) = IsNew below s.name × AreApart below
