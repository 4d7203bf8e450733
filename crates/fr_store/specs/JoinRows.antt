-- Where branches meet, a state of either is one of their join (this project's rule; joins are Featherweight Rust's).
use Rattle.std.specs.Prelude.{◌≡◌, ℕ, List, [], ◌∷◌, length, Option, Some, None}
use Rattle.fr_typing.specs.Kinds.{join_piece, join_kind, map_some, Kind, Piece}
use Rattle.fr_typing.specs.Places.{Slot, IsNested, AreBelow, kind_places, alike}
use Rattle.fr_store.specs.Keys.{Key}
use Rattle.fr_store.specs.Store.{Store}
use Rattle.fr_store.specs.Typed.{KeyTypes}
use Rattle.fr_store.specs.Thread.{After}

-- one slot's join on that of the slots before it, where both are there; these tell which sets of places have one shape
abbrev pub join_more : Slot → Piece → Option (List Slot) → Option (List Slot)
join_more s p None = None
join_more s p (Some e) = map_some (λ q. record s { part = q } ∷ e) (join_piece (alike e) s.part p)

-- the join of two environments; each slot's part is joined
abbrev pub join_env : List Slot → List Slot → Option (List Slot)
join_env [] [] = Some []
join_env [] (s ∷ e) = None
join_env (s ∷ e) [] = None
join_env (s ∷ e) (s2 ∷ e2) = join_more s s2.part (join_env e e2)

-- with nothing at hand
abbrev pub JoinRow : Type 0
JoinRow = (key : ℕ → Key) (rank : Key → ℕ) (hand : Key) (left right slots : List Slot) (E : KeyTypes) (s : Store)
    → join_env left right ≡ Some slots
    → IsNested slots
    → (After key rank hand E left s None → After key rank hand E slots s None) × (After key rank hand E right s None → After key rank hand E slots s None)

-- with a value at hand, whose types are joined
abbrev pub JoinTempRow : Type 0
JoinTempRow = (key : ℕ → Key) (rank : Key → ℕ) (hand : Key) (left right slots : List Slot) (E : KeyTypes) (s : Store) (k1 k2 k : Kind)
    → join_env left right ≡ Some slots
    → join_kind (alike slots) k1 k2 ≡ Some k
    → IsNested slots
    → AreBelow (length slots) (kind_places k)
    → (After key rank hand E left s (Some k1) → After key rank hand E slots s (Some k)) × (After key rank hand E right s (Some k2) → After key rank hand E slots s (Some k))
