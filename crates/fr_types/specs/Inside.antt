-- What the code's environment keeps.
use Rattle.std.specs.Prelude.{◌≡◌, ℕ, ◌<◌, ◌≤◌, ⊤, List, [], ◌∷◌, length, slice_index_or, slice_set, Option, Some, None}
use Rattle.fr_types.specs.Bounds.{most_slots}
use Rattle.fr_types.specs.declared.variable.Variable.{Variable}
use Rattle.fr_types.specs.Types.{piece_of}
use Rattle.fr_types.specs.States.{Held, slot_in, AreNested, AreApart}
use Rattle.fr_types.specs.declared.loans.Loans.{Loans}
use Rattle.fr_types.specs.declared.resolved.Starred.{Starred}
use Rattle.fr_types.specs.Lent.{AreCounted}
use Rattle.fr_types.specs.Bases.{AreAimed}
use Rattle.fr_types.specs.SlotShapes.{Known, AreShapes}

abbrev pub held_of : Variable → Held
held_of v = record { name = v.name; part = piece_of v.part }

-- these slots, in order, above those
abbrev pub onto : List Held → List Variable → List Held
onto below [] = below
onto below (v ∷ vs) = onto (held_of v ∷ below) vs

-- the last slot first
abbrev pub newest : List Variable → List Held
newest vs = onto [] vs

-- the table has the slot of each name, names are apart, and each part names only slots below its own
pub record IsKept (vs : List Held) (slots : List (Option ℕ)) : Type 0 where
  pub found : (name : ℕ) → slice_index_or slots name None ≡ slot_in vs name
  pub apart : AreApart vs
  pub nested : AreNested vs
  pub few : length vs ≤ most_slots

-- the tables of names, of loans and of targets are those of the slots
pub record IsTabled (vs : List Held) (slots : List (Option ℕ)) (loans : List Loans) (targets : List (Option Starred)) : Type 0 where
  pub kept : IsKept vs slots
  pub counted : AreCounted vs loans
  pub aimed : AreAimed vs targets
  pub small : length targets ≤ most_slots

-- and the slots' shapes, where they are known
pub record IsInside (vs : List Held) (slots : List (Option ℕ)) (loans : List Loans) (targets : List (Option Starred)) (shapes : Known) : Type 0 where
  pub tabled : IsTabled vs slots loans targets
  pub shaped : AreShapes vs shapes

-- the table has room for the name
abbrev pub HasRoom : Option ℕ → List (Option ℕ) → Type 0
HasRoom None slots = ⊤
HasRoom (Some name) slots = name < length slots

-- the table with another entry for the name
abbrev pub with_entry : List (Option ℕ) → Option ℕ → Option ℕ → List (Option ℕ)
with_entry slots None slot = slots
with_entry slots (Some name) slot = slice_set slots name slot
