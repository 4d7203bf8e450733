-- One thread over a typed store: its slots have static types (Featherweight Rust's environments), below which an exact one
-- stands, and one value is at hand, or none: the value in the running term.
use Rattle.std.specs.Prelude.{◌≡◌, ◌≢◌, ◌⊎◌, ℕ, ◌<◌, ◌≤◌, Bool, List, [], length, Option, Some, None}
use Rattle.fr_base.specs.declared.place.Lval.{Lval}
use Rattle.fr_typing.specs.Kinds.{Kind, whole}
use Rattle.fr_typing.specs.Places.{Slot, IsNested, AreBelow, kind_places}
use Rattle.fr_store.specs.Keys.{Key}
use Rattle.fr_store.specs.Store.{Store, Place}
use Rattle.fr_store.specs.Typed.{hole, owns, refers, KeyTypes, Typed, Unnamed}
use Rattle.fr_store.specs.Below.{ExactOf, SlotsBelow, Apart}

-- the keys of a thread: `key` gives those of its slots, and `hand` is that of the value at hand
pub record ThreadKeys (key : ℕ → Key) (rank : Key → ℕ) (hand : Key) : Type 0 where
  -- slots of different numbers have different keys
  pub differ : Apart key
  -- the hand is no slot
  pub off : (i : ℕ) → key i ≢ hand
  -- later slots rank higher
  pub ranks : (i j : ℕ) → i < j → rank (key i) < rank (key j)

-- the place of the store that a place of the thread is
abbrev pub place_of : (ℕ → Key) → Lval → Place
place_of key w = record { key = key w.slot; depth = w.depth }

-- the hand has an exact type of that type, or nothing is at hand
abbrev pub TempIs : (ℕ → Key) → KeyTypes → Key → Option Kind → Type 0
TempIs key E hand None = E hand ≡ owns hole
TempIs key E hand (Some k) = ExactOf key E (whole k) (E hand)

-- the places that the type of the value at hand names
abbrev pub temp_places : Option Kind → List Lval
temp_places None = []
temp_places (Some k) = kind_places k

-- key j is that of one of the slots, or place u is no place of the thread
abbrev pub OwnOrForeign : (ℕ → Key) → List Slot → Key → Place → Type 0
OwnOrForeign key slots j u = ((i : ℕ) × (i < length slots) × (j ≡ key i)) ⊎ ((x : ℕ) → u.key ≢ key x)

-- a thread whose slots have these types, in a typed store; `type` is that of the value at hand
pub record ThreadTyped (key : ℕ → Key) (rank : Key → ℕ) (hand : Key) (these : List Slot) (E : KeyTypes) (s : Store) (type : Option Kind) : Type 0 where
  pub typed : Typed rank E s
  -- each slot names only slots before it
  pub nested : IsNested these
  -- the slots have exact types of theirs, and keys of slots that are not in use own nothing
  pub slots : SlotsBelow key E these
  pub above : (i : ℕ) → length these ≤ i → E (key i) ≡ owns hole
  -- so has the value at hand, which names only slots of the thread, and no type names it
  pub temp : TempIs key E hand type
  pub names : AreBelow (length these) (temp_places type)
  pub quiet : Unnamed E hand
  pub over : (i : ℕ) → i < length these → rank (key i) < rank hand
  -- nobody else's type names a slot of this thread
  pub alone : (j : Key) (m : Bool) (u : Place) → E j ≡ refers m u → j ≢ hand → OwnOrForeign key these j u

-- the same of a thread that waits while its branches run: views may name its slots (this project's rule)
pub record Asleep (key : ℕ → Key) (rank : Key → ℕ) (hand : Key) (these : List Slot) (E : KeyTypes) (type : Option Kind) : Type 0 where
  pub nested : IsNested these
  pub slots : SlotsBelow key E these
  pub above : (i : ℕ) → length these ≤ i → E (key i) ≡ owns hole
  pub temp : TempIs key E hand type
  pub names : AreBelow (length these) (temp_places type)
  pub quiet : Unnamed E hand
  pub over : (i : ℕ) → i < length these → rank (key i) < rank hand

-- a reference that a step leaves at key j: to one of the thread's slots, or one that stood there or at a key of the thread before
abbrev pub Known : (ℕ → Key) → Key → KeyTypes → Key → Bool → Place → Type 0
Known key hand E j m u =
    ((y : ℕ) × (u.key ≡ key y)) ⊎ ((i : Key) × (E i ≡ refers m u) × ((i ≡ j) ⊎ ((i ≡ hand) ⊎ ((x : ℕ) × (i ≡ key x)))))

-- after a step of the thread: slots, store and type at hand are these, for some exact types that differ from E at the thread's keys alone
pub record After (key : ℕ → Key) (rank : Key → ℕ) (hand : Key) (E : KeyTypes) (slots : List Slot) (s : Store) (temp : Option Kind) : Type 0 where
  pub env : KeyTypes
  pub thread : ThreadTyped key rank hand slots env s temp
  pub others : (j : Key) → j ≢ hand → ((i : ℕ) → j ≢ key i) → env j ≡ E j
  pub new : (j : Key) (m : Bool) (u : Place) → env j ≡ refers m u → Known key hand E j m u
