-- No box of nothing, and no object without an owner (this project's rule), through the four changes.
use Rattle.std.specs.Prelude.{◌≡◌, ℕ, ◌≤◌, Some, None}
use Rattle.fr_base.specs.declared.name.ObjNo.{ObjNo}
use Rattle.fr_store.specs.Keys.{Key}
use Rattle.fr_store.specs.Store.{Alike, drop_value, Location, at_key, at_object, Val, box_v, Store, value_at}
use Rattle.fr_store.specs.Typed.{Tree, owns, KeyTypes, Typed, Unnamed}
use Rattle.fr_store.specs.Rows.{tree_depth}
use Rattle.fr_store.specs.Changes.{SameBut, SameButTwo}

-- a tidy store
pub record Tidy (s : Store) : Type 0 where
  -- a box that stands somewhere has its object
  pub alive : (l : Location) (o : ObjNo) → value_at s l ≡ Some (box_v o) → (c : Val) × (s.heap o ≡ Some c)
  -- an object has an owner
  pub held : (o : ObjNo) (c : Val) → s.heap o ≡ Some c → (l : Location) × (value_at s l ≡ Some (box_v o))

-- an object has one owner
abbrev pub OneOwner : Store → Type 0
OneOwner s = (a b : Location) (o : ObjNo) → value_at s a ≡ Some (box_v o) → value_at s b ≡ Some (box_v o) → a ≡ b

-- set: where the old value and the new one are no boxes
abbrev pub TidySetLaw : Type 0
TidySetLaw = (s s2 : Store) (a : Key)
    → Tidy s
    → SameBut (at_key a) s s2
    → ((o : ObjNo) → s.at a ≡ box_v o → ⊥)
    → ((o : ObjNo) → s2.at a ≡ box_v o → ⊥)
    → Tidy s2

-- swap: two values change places
abbrev pub TidySwapLaw : Type 0
TidySwapLaw = (s s2 : Store) (h : Key) (l : Location)
    → Tidy s
    → SameButTwo (at_key h) l s s2
    → value_at s2 l ≡ Some (s.at h)
    → Some (s2.at h) ≡ value_at s l
    → Tidy s2

-- unbox: one link of a drop
abbrev pub TidyUnboxLaw : Type 0
TidyUnboxLaw = (s s2 : Store) (h : Key) (o : ObjNo)
    → OneOwner s
    → Tidy s
    → SameButTwo (at_key h) (at_object o) s s2
    → s.at h ≡ box_v o
    → Some (s2.at h) ≡ s.heap o
    → s2.heap o ≡ None
    → Tidy s2

-- make: a new object
abbrev pub TidyMakeLaw : Type 0
TidyMakeLaw = (s s2 : Store) (h : Key) (o : ObjNo)
    → Tidy s
    → SameButTwo (at_key h) (at_object o) s s2
    → s.heap o ≡ None
    → s2.at h ≡ box_v o
    → s2.heap o ≡ Some (s.at h)
    → Tidy s2

-- only what stands at each location counts
abbrev pub TidyAlikeLaw : Type 0
TidyAlikeLaw = (s s2 : Store)
    → Tidy s
    → Alike s s2
    → Tidy s2

-- the whole drop of an owned value
abbrev pub TidyDropLaw : Type 0
TidyDropLaw = (rank : Key → ℕ) (E : KeyTypes) (s : Store) (a : Key) (t : Tree) (fuel : ℕ)
    → Typed rank E s
    → Unnamed E a
    → E a ≡ owns t
    → tree_depth t ≤ fuel
    → Tidy s
    → Tidy (drop_value fuel a s)

-- nobody holds a box of an object that isn't there
abbrev pub FreshLaw : Type 0
FreshLaw = (s : Store) (o : ObjNo)
    → Tidy s
    → s.heap o ≡ None
    → (l : Location) → value_at s l ≡ Some (box_v o) → ⊥
