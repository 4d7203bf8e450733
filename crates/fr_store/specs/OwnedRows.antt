-- Steps on owned values (Featherweight Rust's rows): each keeps a thread typed, to the slots, the store and the type at hand that it leaves.
use Rattle.std.specs.Prelude.{◌≡◌, ◌≢◌, ℕ, ℤ, ◌<◌, ◌≤◌, ◌||◌, Bool, true, false, List, [], ◌∷◌, length, Option, Some, None}
use Rattle.fr_base.specs.declared.name.ObjNo.{ObjNo}
use Rattle.fr_base.specs.declared.place.Lval.{Lval}
use Rattle.fr_terms.specs.Terms.{Text}
use Rattle.fr_typing.specs.Kinds.{Owned, unit, int, box, Kind, own, view, Piece, whole, gone}
use Rattle.fr_typing.specs.Places.{Slot, type_at, found, write_blocked, is_writable, is_own_path, is_lent, is_mutable, Shape, owned_shape, piece_shape, put_at, AreBelow}
use Rattle.fr_store.specs.Keys.{Key}
use Rattle.fr_store.specs.Store.{Alike, Location, at_key, unit_v, int_v, box_v, gone_v, Store, value_at, Place, locate, put_value, swap, make, drop_value}
use Rattle.fr_store.specs.Typed.{hole, owns, refers, KeyTypes, Unnamed}
use Rattle.fr_store.specs.Below.{tree_of, piece_depth}
use Rattle.fr_store.specs.Rows.{tree_depth}
use Rattle.fr_store.specs.Thread.{ThreadKeys, place_of, temp_places, ThreadTyped, After}

-- at the start there is nothing
abbrev pub StartRow : Type 0
StartRow = (key : ℕ → Key) (rank : Key → ℕ) (hand : Key) → ThreadTyped key rank hand [] (λ _. owns hole) (record { at = λ _. gone_v; heap = λ _. None }) None

-- another key becomes the hand, where nothing is at hand and no type names it
abbrev pub HandRow : Type 0
HandRow = (key : ℕ → Key) (rank : Key → ℕ) (hand c : Key) (slots : List Slot) (E : KeyTypes) (s : Store)
    → ThreadTyped key rank hand slots E s None
    → E c ≡ owns hole
    → Unnamed E c
    → ((i : ℕ) → i < length slots → rank (key i) < rank c)
    → ThreadTyped key rank c slots E s None

-- the hand may rank higher
abbrev pub RaiseRow : Type 0
RaiseRow = (key : ℕ → Key) (rank rank2 : Key → ℕ) (hand : Key) (slots : List Slot) (E : KeyTypes) (s : Store) (temp : Option Kind)
    → ThreadKeys key rank hand
    → ThreadTyped key rank hand slots E s temp
    → ((j : Key) → j ≢ hand → rank2 j ≡ rank j)
    → rank hand ≤ rank2 hand
    → ThreadKeys key rank2 hand × ThreadTyped key rank2 hand slots E s temp

-- the hand may rank high enough for one more slot
abbrev pub RoomRow : Type 0
RoomRow = (key : ℕ → Key) (rank : Key → ℕ) (hand : Key) (slots : List Slot) (E : KeyTypes) (s : Store) (temp : Option Kind)
    → ThreadKeys key rank hand
    → ThreadTyped key rank hand slots E s temp
    → (rank2 : Key → ℕ) × ThreadKeys key rank2 hand × ThreadTyped key rank2 hand slots E s temp
    × (rank2 (key (length slots)) < rank2 hand) × ((j : Key) → j ≢ hand → rank2 j ≡ rank j)

-- a value at hand that is no view may stand in the next slot
abbrev pub NextRow : Type 0
NextRow = (key : ℕ → Key) (rank : Key → ℕ) (hand : Key) (slots : List Slot) (E : KeyTypes) (s : Store) (k : Kind)
    → ThreadKeys key rank hand
    → ThreadTyped key rank hand slots E s (Some k)
    → ((o : Owned) → k ≡ view o → ⊥)
    → (m : Bool) (u : Place) → E hand ≡ refers m u → rank u.key < rank (key (length slots))

-- only what stands at each location counts
abbrev pub AlikeRow : Type 0
AlikeRow = (key : ℕ → Key) (rank : Key → ℕ) (hand : Key) (slots : List Slot) (E : KeyTypes) (s s2 : Store) (temp : Option Kind)
    → Alike s s2
    → (ThreadTyped key rank hand slots E s temp → ThreadTyped key rank hand slots E s2 temp) × (After key rank hand E slots s temp → After key rank hand E slots s2 temp)

-- a number
abbrev pub IntRow : Type 0
IntRow = (key : ℕ → Key) (rank : Key → ℕ) (hand : Key) (slots : List Slot) (E : KeyTypes) (s : Store) (n : ℤ)
    → ThreadKeys key rank hand
    → ThreadTyped key rank hand slots E s None
    → After key rank hand E slots (put_value s (at_key hand) (int_v n)) (Some (own int))

-- `()`
abbrev pub UnitRow : Type 0
UnitRow = (key : ℕ → Key) (rank : Key → ℕ) (hand : Key) (slots : List Slot) (E : KeyTypes) (s : Store)
    → ThreadKeys key rank hand
    → ThreadTyped key rank hand slots E s None
    → After key rank hand E slots (put_value s (at_key hand) unit_v) (Some (own unit))

-- at a place of type int a number stands. (Its copy is then the row of a number)
abbrev pub ReadIntRow : Type 0
ReadIntRow = (key : ℕ → Key) (rank : Key → ℕ) (hand : Key) (slots : List Slot) (E : KeyTypes) (s : Store) (temp : Option Kind) (w : Lval)
    → ThreadKeys key rank hand
    → ThreadTyped key rank hand slots E s temp
    → w.slot < length slots
    → type_at slots w ≡ found (whole (own int))
    → (l : Location) × (n : ℤ) × (locate s (place_of key w) ≡ Some l) × (value_at s l ≡ Some (int_v n))

-- at a place of type unit `()` stands
abbrev pub ReadUnitRow : Type 0
ReadUnitRow = (key : ℕ → Key) (rank : Key → ℕ) (hand : Key) (slots : List Slot) (E : KeyTypes) (s : Store) (temp : Option Kind) (w : Lval)
    → ThreadKeys key rank hand
    → ThreadTyped key rank hand slots E s temp
    → w.slot < length slots
    → type_at slots w ≡ found (whole (own unit))
    → (l : Location) × (locate s (place_of key w) ≡ Some l) × (value_at s l ≡ Some unit_v)

-- moving an owned value out of its place
abbrev pub MoveRow : Type 0
MoveRow = (key : ℕ → Key) (rank : Key → ℕ) (hand : Key) (slots : List Slot) (E : KeyTypes) (s : Store) (w : Lval) (o : Owned)
    → ThreadKeys key rank hand
    → ThreadTyped key rank hand slots E s None
    → w.slot < length slots
    → type_at slots w ≡ found (whole (own o))
    → write_blocked slots w.slot ≡ false
    → is_own_path slots w ≡ true
    → (l : Location) × (locate s (place_of key w) ≡ Some l) × After key rank hand E (put_at slots w (gone (own o))) (swap s hand l) (Some (own o))

-- `let`: the value at hand stands in a new slot. (That a view's place ranks below it must be known)
abbrev pub LetRow : Type 0
LetRow = (key : ℕ → Key) (rank : Key → ℕ) (hand : Key) (slots : List Slot) (E : KeyTypes) (s : Store) (k : Kind) (name : Option Text)
    → ThreadKeys key rank hand
    → ThreadTyped key rank hand slots E s (Some k)
    → ((m : Bool) (u : Place) → E hand ≡ refers m u → rank u.key < rank (key (length slots)))
    → rank (key (length slots)) < rank hand
    → After key rank hand E (record { name = name; part = whole k } ∷ slots) (swap s hand (at_key (key (length slots)))) None

-- `w = t` on an own path, also where something there has moved away: what stood there is dropped at the hand
abbrev pub AssignRow : Type 0
AssignRow = (key : ℕ → Key) (rank : Key → ℕ) (hand : Key) (slots : List Slot) (E : KeyTypes) (s : Store) (w : Lval) (o : Owned) (q : Piece)
    → ThreadKeys key rank hand
    → ThreadTyped key rank hand slots E s (Some (own o))
    → w.slot < length slots
    → type_at slots w ≡ found q
    → (is_lent (found q) || is_mutable (found q)) ≡ false
    → write_blocked slots w.slot ≡ false
    → is_own_path slots w ≡ true
    → (l : Location) × (locate s (place_of key w) ≡ Some l)
    × ((fuel : ℕ) → piece_depth q ≤ fuel → After key rank hand E (put_at slots w (whole (own o))) (drop_value fuel hand (swap s hand l)) None)

-- `w = t` where what stands at w is whole: the new value is there, and the old one at hand
abbrev pub WriteRow : Type 0
WriteRow = (key : ℕ → Key) (rank : Key → ℕ) (hand : Key) (slots : List Slot) (E : KeyTypes) (s : Store) (w : Lval) (o : Owned)
    → ThreadKeys key rank hand
    → ThreadTyped key rank hand slots E s (Some (own o))
    → w.slot < length slots
    → type_at slots w ≡ found (whole (own o))
    → write_blocked slots w.slot ≡ false
    → is_writable slots w ≡ true
    → (l : Location) × (locate s (place_of key w) ≡ Some l) × After key rank hand E slots (swap s hand l) (Some (own o))

-- `w = t` through mutable references, where the shapes are equal: the new value is there, and the old one at hand
abbrev pub WriteThroughRow : Type 0
WriteThroughRow = (key : ℕ → Key) (rank : Key → ℕ) (hand : Key) (slots : List Slot) (E : KeyTypes) (s : Store) (w : Lval) (o : Owned) (q : Piece) (look : Lval → Option Shape)
    → ThreadKeys key rank hand
    → ThreadTyped key rank hand slots E s (Some (own o))
    → w.slot < length slots
    → type_at slots w ≡ found q
    → piece_shape look q ≡ Some (owned_shape o)
    → write_blocked slots w.slot ≡ false
    → is_writable slots w ≡ true
    → is_own_path slots w ≡ false
    → (l : Location) × (locate s (place_of key w) ≡ Some l) × After key rank hand E slots (swap s hand l) (Some (own o))

-- the end of an owned value at hand
abbrev pub DropRow : Type 0
DropRow = (key : ℕ → Key) (rank : Key → ℕ) (hand : Key) (slots : List Slot) (E : KeyTypes) (s : Store) (o : Owned) (fuel : ℕ)
    → ThreadKeys key rank hand
    → ThreadTyped key rank hand slots E s (Some (own o))
    → tree_depth (tree_of o) ≤ fuel
    → After key rank hand E slots (drop_value fuel hand s) None

-- `Box::new`: a new object holds the value at hand, and its box is at hand
abbrev pub BoxRow : Type 0
BoxRow = (key : ℕ → Key) (rank : Key → ℕ) (hand : Key) (slots : List Slot) (E : KeyTypes) (s : Store) (o : Owned) (n : ObjNo)
    → ThreadKeys key rank hand
    → ThreadTyped key rank hand slots E s (Some (own o))
    → s.heap n ≡ None
    → ((l : Location) → value_at s l ≡ Some (box_v n) → ⊥)
    → After key rank hand E slots (make s hand n) (Some (own (box o)))

-- a block's end drops the last slot; the value at hand names only slots before it
abbrev pub EndRow : Type 0
EndRow = (key : ℕ → Key) (rank : Key → ℕ) (hand : Key) (slots : List Slot) (last : Slot) (E : KeyTypes) (s : Store) (temp : Option Kind) (fuel : ℕ)
    → ThreadKeys key rank hand
    → ThreadTyped key rank hand (last ∷ slots) E s temp
    → AreBelow (length slots) (temp_places temp)
    → piece_depth last.part ≤ fuel
    → After key rank hand E slots (drop_value fuel (key (length slots)) s) temp
