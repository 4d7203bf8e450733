-- WHO STANDS ABOVE A POINTER: what a mutable reference was made from, and so on (this project's rule), in a typed store.
use Rattle.std.specs.Prelude.{◌≡◌, ◌⊎◌, ℕ, suc, true, Some}
use Rattle.coherent_types.specs.Below.fr_base.declared.name.ObjNo.{ObjNo}
use Rattle.coherent_types.specs.Below.fr_store.Keys.{Key}
use Rattle.coherent_types.specs.Below.fr_store.Store.{Location, at_key, at_object, box_v, ref_v, Store, value_at, walk, Place, locate}
use Rattle.coherent_types.specs.Below.fr_store.Typed.{Exact, refers, KeyTypes, Resolves, Typed, Unnamed}

-- the mutable reference at a key was made from the pointer there: the one that the place of its exact type follows last
pub record IsMadeFrom (E : KeyTypes) (s : Store) (k : Key) (h : Location) : Type 0 where
  pub place : Place
  pub stars : ℕ
  pub refers : E k ≡ refers true place
  pub last : place.depth ≡ suc stars
  pub leads : walk s stars (at_key place.key) ≡ Some h

-- or that one was, and so on
pub data StandsAbove (E : KeyTypes) (s : Store) (l : Location) : Location → Type 0 where
  holder : {k : Key} → IsMadeFrom E s k l → StandsAbove E s l (at_key k)
  higher : {k : Key} {h : Location} → IsMadeFrom E s k h → StandsAbove E s l h → StandsAbove E s l (at_key k)

-- a pointer to the object stands there: its box, or a reference to it at a key
pub data PointsTo (s : Store) (o : ObjNo) : Location → Type 0 where
  its_box : {l : Location} → value_at s l ≡ Some (box_v o) → PointsTo s o l
  a_reference : {k : Key} → s.at k ≡ ref_v (at_object o) → PointsTo s o (at_key k)

-- a place that may be written, whose last star follows the pointer at h to an object: each pointer to the object is that one or stands above it
abbrev pub SolePointer : Type 0
SolePointer = (rank : Key → ℕ) (E : KeyTypes) (s : Store) (k : Key) (d : ℕ) (b : Key) (n : ℕ) (p : Exact) (h l : Location) (o : ObjNo)
    → Typed rank E s
    → Unnamed E k
    → Resolves E true k (suc d) b n p
    → walk s d (at_key k) ≡ Some h
    → locate s (record { key = k; depth = suc d }) ≡ Some (at_object o)
    → PointsTo s o l
    → (l ≡ h) ⊎ StandsAbove E s l h
