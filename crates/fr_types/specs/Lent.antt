-- Loans, counted by the slot at which their places start (this project's rule: a count in place of a search).
use Rattle.std.specs.Prelude.{◌≡◌, ℕ, ◌+◌, ◌≤◌, Bool, true, false, not, List, [], ◌∷◌, length, take, slice_index_or}
use Rattle.fr_base.specs.declared.place.Lval.{Lval}
use Rattle.fr_typing.specs.Kinds.{shared, mutable, Piece, whole}
use Rattle.fr_typing.specs.Places.{starts_at, blocks_read, blocks_write}
use Rattle.fr_types.specs.Bounds.{most_slots}
use Rattle.fr_types.specs.declared.loans.Loans.{Loans}
use Rattle.fr_types.specs.States.{Held}

abbrev pub bit : Bool → ℕ
bit true = 1
bit false = 0

-- how many slots have such a part
abbrev pub count_at : (Piece → Bool) → List Held → ℕ
count_at test [] = 0
count_at test (s ∷ below) = count_at test below + bit (test s.part)

-- the counts of a slot; where there are none, nothing is lent
abbrev pub loans_at : List Loans → ℕ → Loans
loans_at loans x = slice_index_or loans x (record { mutable = 0; any = 0 })

-- a whole reference of either sort
abbrev pub reference : Bool → List Lval → Piece
reference true us = whole (mutable us)
reference false us = whole (shared us)

-- no place of the set before this one starts at its slot
abbrev pub place_of : List Lval → ℕ → Lval
place_of us at = slice_index_or us at (record { slot = 0; depth = 0 })

abbrev pub is_first : List Lval → ℕ → Bool
is_first us at = not (starts_at (place_of us at).slot (take at us))

-- `more` has one slot more than `less` at each slot at which a place of the part starts
pub record IsLent (less more : List Loans) (p : Piece) : Type 0 where
  pub same : length more ≡ length less
  pub mutable : (x : ℕ) → (loans_at more x).mutable ≡ (loans_at less x).mutable + bit (blocks_read x p)
  pub any : (x : ℕ) → (loans_at more x).any ≡ (loans_at less x).any + bit (blocks_write x p)

-- the part is counted
pub record HasLoans (loans : List Loans) (p : Piece) : Type 0 where
  pub mutable : (x : ℕ) → bit (blocks_read x p) ≤ (loans_at loans x).mutable
  pub any : (x : ℕ) → bit (blocks_write x p) ≤ (loans_at loans x).any

-- no count is larger than that of the slots
pub record HasSpace (loans : List Loans) : Type 0 where
  pub mutable : (x : ℕ) → (loans_at loans x).mutable ≤ most_slots
  pub any : (x : ℕ) → (loans_at loans x).any ≤ most_slots

-- each slot's counts are those of the environment
pub record AreCounted (vs : List Held) (loans : List Loans) : Type 0 where
  pub room : length vs ≤ length loans
  pub mutable : (x : ℕ) → (loans_at loans x).mutable ≡ count_at (blocks_read x) vs
  pub any : (x : ℕ) → (loans_at loans x).any ≡ count_at (blocks_write x) vs
