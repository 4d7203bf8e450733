-- Steps on owned values in the store of one thread that runs alone (Featherweight Rust's rows over a list of slots and a heap).
use Rattle.std.specs.Prelude.{◌≡◌, ℕ, ℤ, ◌<◌, ◌≤◌, ◌||◌, true, false, List, [], ◌∷◌, length, Option, Some, None}
use Rattle.fr_base.specs.declared.name.ObjNo.{ObjNo}
use Rattle.fr_base.specs.declared.place.Lval.{Lval}
use Rattle.fr_terms.specs.Terms.{Text}
use Rattle.fr_typing.specs.Kinds.{Owned, unit, int, box, Kind, own, Piece, whole, gone}
use Rattle.fr_typing.specs.Places.{Slot, type_at, found, write_blocked, is_own_path, is_lent, is_mutable, put_at, AreBelow}
use Rattle.fr_store.specs.Keys.{Key, slot_k, hand_k}
use Rattle.fr_store.specs.Store.{Location, Val, gone_v, unit_v, int_v, box_v, value_at, locate}
use Rattle.fr_store.specs.Typed.{KeyTypes}
use Rattle.fr_store.specs.Below.{tree_of, piece_depth}
use Rattle.fr_store.specs.Rows.{tree_depth}
use Rattle.fr_store.specs.Thread.{ThreadKeys, place_of, temp_places, ThreadTyped}
use Rattle.fr_store.specs.Tidy.{Tidy}
use Rattle.fr_store.specs.ListState.{Objects, store_of, put_in_slots, put_in_heap, put_object, drop_objects, drop_rest}

-- the state is typed: slots of these types have the values vs, v is the value in the running term, of type `temp`, or there is none
pub record StateTyped (thread : ℕ) (slots : List Slot) (vs : List Val) (v : Val) (heap : Objects) (temp : Option Kind) : Type 0 where
  pub rank : Key → ℕ
  pub types : KeyTypes
  pub keys : ThreadKeys (slot_k thread) rank (hand_k thread)
  pub typed : ThreadTyped (slot_k thread) rank (hand_k thread) slots types (store_of thread vs v heap) temp
  -- each slot has a value, and each object an owner
  pub long : length vs ≡ length slots
  pub tidy : Tidy (store_of thread vs v heap)

-- at the start there is nothing
abbrev pub StartList : Type 0
StartList = (t : ℕ) → StateTyped t [] [] gone_v (λ _. None) None

-- where no value is in the term, nothing is at hand
abbrev pub NoneList : Type 0
NoneList = (t : ℕ) (slots : List Slot) (vs : List Val) (v : Val) (heap : Objects)
    → StateTyped t slots vs v heap None
    → v ≡ gone_v

-- only what each object holds counts
abbrev pub AlikeList : Type 0
AlikeList = (t : ℕ) (slots : List Slot) (vs : List Val) (v : Val) (heap heap2 : Objects) (temp : Option Kind)
    → StateTyped t slots vs v heap temp
    → ((o : ObjNo) → heap2 o ≡ heap o)
    → StateTyped t slots vs v heap2 temp

-- a number
abbrev pub IntList : Type 0
IntList = (t : ℕ) (slots : List Slot) (vs : List Val) (v : Val) (heap : Objects) (n : ℤ)
    → StateTyped t slots vs v heap None
    → StateTyped t slots vs (int_v n) heap (Some (own int))

-- `()`
abbrev pub UnitList : Type 0
UnitList = (t : ℕ) (slots : List Slot) (vs : List Val) (v : Val) (heap : Objects)
    → StateTyped t slots vs v heap None
    → StateTyped t slots vs unit_v heap (Some (own unit))

-- at a place of type int a number stands
abbrev pub ReadIntList : Type 0
ReadIntList = (t : ℕ) (slots : List Slot) (vs : List Val) (v : Val) (heap : Objects) (temp : Option Kind) (w : Lval)
    → StateTyped t slots vs v heap temp
    → w.slot < length slots
    → type_at slots w ≡ found (whole (own int))
    → (l : Location) × (n : ℤ) × (locate (store_of t vs v heap) (place_of (slot_k t) w) ≡ Some l) × (value_at (store_of t vs v heap) l ≡ Some (int_v n))

-- at a place of type unit `()` stands
abbrev pub ReadUnitList : Type 0
ReadUnitList = (t : ℕ) (slots : List Slot) (vs : List Val) (v : Val) (heap : Objects) (temp : Option Kind) (w : Lval)
    → StateTyped t slots vs v heap temp
    → w.slot < length slots
    → type_at slots w ≡ found (whole (own unit))
    → (l : Location) × (locate (store_of t vs v heap) (place_of (slot_k t) w) ≡ Some l) × (value_at (store_of t vs v heap) l ≡ Some unit_v)

-- moving an owned value out of its place: gone stands there, and the value is in the term
abbrev pub MoveList : Type 0
MoveList = (t : ℕ) (slots : List Slot) (vs : List Val) (v : Val) (heap : Objects) (w : Lval) (o : Owned)
    → StateTyped t slots vs v heap None
    → w.slot < length slots
    → type_at slots w ≡ found (whole (own o))
    → write_blocked slots w.slot ≡ false
    → is_own_path slots w ≡ true
    → (l : Location) × (c : Val) × (locate (store_of t vs v heap) (place_of (slot_k t) w) ≡ Some l) × (value_at (store_of t vs v heap) l ≡ Some c)
    × StateTyped t (put_at slots w (gone (own o))) (put_in_slots l gone_v vs) c (put_in_heap l gone_v heap) (Some (own o))

-- `let`: the value in the term stands in a new slot
abbrev pub LetList : Type 0
LetList = (t : ℕ) (slots : List Slot) (vs : List Val) (v : Val) (heap : Objects) (k : Kind) (name : Option Text)
    → StateTyped t slots vs v heap (Some k)
    → StateTyped t (record { name = name; part = whole k } ∷ slots) (v ∷ vs) gone_v heap None

-- `w = t` on an own path: what stood there is dropped
abbrev pub AssignList : Type 0
AssignList = (t : ℕ) (slots : List Slot) (vs : List Val) (v : Val) (heap : Objects) (w : Lval) (o : Owned) (q : Piece)
    → StateTyped t slots vs v heap (Some (own o))
    → w.slot < length slots
    → type_at slots w ≡ found q
    → (is_lent (found q) || is_mutable (found q)) ≡ false
    → write_blocked slots w.slot ≡ false
    → is_own_path slots w ≡ true
    → (l : Location) × (c : Val) × (locate (store_of t vs v heap) (place_of (slot_k t) w) ≡ Some l) × (value_at (store_of t vs v heap) l ≡ Some c)
    × ((n : ℕ) → piece_depth q ≤ n → (drop_rest n c (put_in_heap l v heap) ≡ gone_v)
    × StateTyped t (put_at slots w (whole (own o))) (put_in_slots l v vs) gone_v (drop_objects n c (put_in_heap l v heap)) None)

-- the end of the value in the term
abbrev pub DropList : Type 0
DropList = (t : ℕ) (slots : List Slot) (vs : List Val) (v : Val) (heap : Objects) (o : Owned) (n : ℕ)
    → StateTyped t slots vs v heap (Some (own o))
    → tree_depth (tree_of o) ≤ n
    → (drop_rest n v heap ≡ gone_v) × StateTyped t slots vs gone_v (drop_objects n v heap) None

-- `Box::new`: a new object holds the value in the term, and its box is in the term
abbrev pub BoxList : Type 0
BoxList = (t : ℕ) (slots : List Slot) (vs : List Val) (v : Val) (heap : Objects) (o : Owned) (n : ObjNo)
    → StateTyped t slots vs v heap (Some (own o))
    → heap n ≡ None
    → StateTyped t slots vs (box_v n) (put_object heap n v) (Some (own (box o)))

-- a block's end drops the newest slot; the value in the term names only slots before it
abbrev pub EndList : Type 0
EndList = (t : ℕ) (slots : List Slot) (last : Slot) (vs : List Val) (old v : Val) (heap : Objects) (temp : Option Kind) (n : ℕ)
    → StateTyped t (last ∷ slots) (old ∷ vs) v heap temp
    → AreBelow (length slots) (temp_places temp)
    → piece_depth last.part ≤ n
    → (drop_rest n old heap ≡ gone_v) × StateTyped t slots vs v (drop_objects n old heap) temp
