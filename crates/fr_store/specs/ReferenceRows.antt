-- Steps on references (Featherweight Rust's rows).
use Rattle.std.specs.Prelude.{◌≡◌, ℕ, ◌<◌, ◌≤◌, Bool, true, false, List, [], ◌∷◌, length, Option, Some, None}
use Rattle.fr_base.specs.declared.place.Lval.{Lval}
use Rattle.fr_typing.specs.Kinds.{Piece, unit, Kind, own, shared, mutable, whole, gone}
use Rattle.fr_typing.specs.Places.{Slot, type_at, found, read_blocked, write_blocked, is_writable, put_at, AreBelow, kind_places}
use Rattle.fr_store.specs.Keys.{Key}
use Rattle.fr_store.specs.Store.{Location, at_key, Val, gone_v, ref_v, Store, value_at, Place, locate, put_value, swap, drop_value}
use Rattle.fr_store.specs.Typed.{hole, owns, refers, KeyTypes, Unnamed}
use Rattle.fr_store.specs.Rows.{with_type}
use Rattle.fr_store.specs.Below.{piece_depth}
use Rattle.fr_store.specs.Thread.{ThreadKeys, place_of, ThreadTyped, After}

-- `&w`
abbrev pub SharedRow : Type 0
SharedRow = (key : ℕ → Key) (rank : Key → ℕ) (hand : Key) (slots : List Slot) (E : KeyTypes) (s : Store) (w : Lval) (k : Kind)
    → ThreadKeys key rank hand
    → ThreadTyped key rank hand slots E s None
    → w.slot < length slots
    → type_at slots w ≡ found (whole k)
    → read_blocked slots w.slot ≡ false
    → (l : Location) × (locate s (place_of key w) ≡ Some l) × After key rank hand E slots (put_value s (at_key hand) (ref_v l)) (Some (shared (w ∷ [])))

-- `&mut w`
abbrev pub MutableRow : Type 0
MutableRow = (key : ℕ → Key) (rank : Key → ℕ) (hand : Key) (slots : List Slot) (E : KeyTypes) (s : Store) (w : Lval) (k : Kind)
    → ThreadKeys key rank hand
    → ThreadTyped key rank hand slots E s None
    → w.slot < length slots
    → type_at slots w ≡ found (whole k)
    → write_blocked slots w.slot ≡ false
    → is_writable slots w ≡ true
    → (l : Location) × (locate s (place_of key w) ≡ Some l) × After key rank hand E slots (put_value s (at_key hand) (ref_v l)) (Some (mutable (w ∷ [])))

-- a copied shared reference
abbrev pub CopyRow : Type 0
CopyRow = (key : ℕ → Key) (rank : Key → ℕ) (hand : Key) (slots : List Slot) (E : KeyTypes) (s : Store) (w : Lval) (us : List Lval)
    → ThreadKeys key rank hand
    → ThreadTyped key rank hand slots E s None
    → w.slot < length slots
    → type_at slots w ≡ found (whole (shared us))
    → (l : Location) × (v : Val) × (locate s (place_of key w) ≡ Some l) × (value_at s l ≡ Some v) × After key rank hand E slots (put_value s (at_key hand) v) (Some (shared us))

-- a mutable reference moves out of its variable
abbrev pub MoveRefRow : Type 0
MoveRefRow = (key : ℕ → Key) (rank : Key → ℕ) (hand : Key) (slots : List Slot) (E : KeyTypes) (s : Store) (x : ℕ) (us : List Lval)
    → ThreadKeys key rank hand
    → ThreadTyped key rank hand slots E s None
    → x < length slots
    → type_at slots (record { slot = x; depth = 0 }) ≡ found (whole (mutable us))
    → write_blocked slots x ≡ false
    → After key rank hand E (put_at slots (record { slot = x; depth = 0 }) (gone (mutable us))) (swap s hand (at_key (key x))) (Some (mutable us))

-- the value of a variable ends that no type names. (What it was is forgotten: its part counts as gone)
abbrev pub ClearRow : Type 0
ClearRow = (key : ℕ → Key) (rank : Key → ℕ) (hand : Key) (slots : List Slot) (E : KeyTypes) (s : Store) (x : ℕ) (q : Piece) (temp : Option Kind) (fuel : ℕ)
    → ThreadKeys key rank hand
    → ThreadTyped key rank hand slots E s temp
    → Unnamed E (key x)
    → type_at slots (record { slot = x; depth = 0 }) ≡ found q
    → piece_depth q ≤ fuel
    → ThreadTyped key rank hand (put_at slots (record { slot = x; depth = 0 }) (gone (own unit))) (with_type E (key x) (owns hole)) (drop_value fuel (key x) s) temp

-- `x = t` for a reference, after the old value's end: the reference at hand goes to the variable
abbrev pub FillRow : Type 0
FillRow = (key : ℕ → Key) (rank : Key → ℕ) (hand : Key) (slots : List Slot) (E : KeyTypes) (s : Store) (x : ℕ) (k : Kind) (m : Bool) (u : Place)
    → ThreadKeys key rank hand
    → ThreadTyped key rank hand slots E s (Some k)
    → E hand ≡ refers m u
    → E (key x) ≡ owns hole
    → Unnamed E (key x)
    → x < length slots
    → AreBelow x (kind_places k)
    → rank u.key < rank (key x)
    → After key rank hand E (put_at slots (record { slot = x; depth = 0 }) (whole k)) (swap s hand (at_key (key x))) None

-- the end of a reference at hand. (What owns an object ends by the row of an owned value)
abbrev pub ForgetRow : Type 0
ForgetRow = (key : ℕ → Key) (rank : Key → ℕ) (hand : Key) (slots : List Slot) (E : KeyTypes) (s : Store) (k : Kind)
    → ThreadKeys key rank hand
    → ThreadTyped key rank hand slots E s (Some k)
    → After key rank hand E slots (put_value s (at_key hand) gone_v) None
