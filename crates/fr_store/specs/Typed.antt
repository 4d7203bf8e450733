-- Typed stores (Featherweight Rust's "valid" stores, made exact): each key has one exact type, which names for each reference
-- the one place that it leads to. Sets of places, as joins of branches make them, stand above (Below).
use Rattle.std.specs.Prelude.{◌≡◌, ◌≢◌, ℕ, zero, suc, ℤ, ◌<◌, Bool, true, Option, Some, None}
use Rattle.fr_base.specs.declared.name.ObjNo.{ObjNo}
use Rattle.fr_base.specs.declared.name.MutexNo.{MutexNo}
use Rattle.fr_store.specs.Keys.{Key}
pub use Rattle.fr_store.specs.Trees.{Tree, hole, unit_tree, int_tree, mutex_tree, task_tree, box_tree}
use Rattle.fr_store.specs.Store.{Location, at_key, Val, gone_v, unit_v, int_v, box_v, mutex_v, task_v, ref_v, Store, value_at, Place, below_location, below_key, add}

-- EXACT TYPES

-- the exact type of a key: owned, or a reference (mutable where m is true) to the one place that it leads to.
-- A view is a shared reference to a place of another thread. A key that is not in use owns a hole
pub data Exact : Type 0 where
  owns : (t : Tree) → Exact
  refers : (m : Bool) (u : Place) → Exact

-- the exact types of all keys
abbrev pub KeyTypes : Type 0
KeyTypes = Key → Exact

-- no hole is in the tree
abbrev pub WholeTree : Tree → Type 0
WholeTree hole = ⊥
WholeTree (box_tree t) = WholeTree t
WholeTree _ = Unit {0}

-- nothing in it has moved away
abbrev pub Whole : Exact → Type 0
Whole (owns t) = WholeTree t
Whole (refers m u) = Unit {0}

-- the tree that stands so many boxes below
abbrev pub tree_under : ℕ → Tree → Option Tree
tree_under zero t = Some t
tree_under (suc n) (box_tree t) = tree_under n t
tree_under (suc n) hole = None
tree_under (suc n) unit_tree = None
tree_under (suc n) int_tree = None
tree_under (suc n) (mutex_tree t) = None
tree_under (suc n) (task_tree t) = None

-- the exact type of a tree that is there
abbrev pub some_owns : Option Tree → Option Exact
some_owns None = None
some_owns (Some t) = Some (owns t)

-- the exact type that stands so many boxes below. A box holds no reference, so a reference has nothing below it
abbrev pub exact_under : ℕ → Exact → Option Exact
exact_under n (owns t) = some_owns (tree_under n t)
exact_under zero (refers m u) = Some (refers m u)
exact_under (suc n) (refers m u) = None

-- WHERE A PLACE LEADS BY THE TYPES ALONE

-- the place with d stars at key k leads to what is n boxes below key b, of exact type p, whatever the store;
-- with `only`, all references on the way are mutable
pub data Resolves (E : KeyTypes) (only : Bool) : Key → ℕ → Key → ℕ → Exact → Type 0 where
  here : {k : Key} {n : ℕ} {p : Exact} → exact_under n (E k) ≡ Some p → Resolves E only k n k n p
  through : {k b : Key} {d n : ℕ} {p : Exact} (m : Bool) (u : Place) (e : ℕ) → E k ≡ refers m u → (only ≡ true → m ≡ true) → d ≡ suc e
      → Resolves E only u.key (add u.depth e) b n p → Resolves E only k d b n p

-- key k lent it mutably, or a key did that k lent so, and so on
pub data Loaned (E : KeyTypes) (k : Key) : Key → Type 0 where
  self : Loaned E k k
  loan : {t : Key} → Loaned E k t → (u : Place) → E t ≡ refers true u → Loaned E k u.key

-- TYPED STORES

-- the outermost part of an owned value is of that tree
abbrev pub TopFits : Tree → Val → Type 0
TopFits hole v = v ≡ gone_v
TopFits unit_tree v = v ≡ unit_v
TopFits int_tree v = (n : ℤ) × (v ≡ int_v n)
TopFits (mutex_tree t) v = (m : MutexNo) × (v ≡ mutex_v m t)
TopFits (task_tree t) v = (m : ℕ) × (v ≡ task_v m t)
TopFits (box_tree t) v = (o : ObjNo) × (v ≡ box_v o)

-- a reference leads to what its place leads to, which is whole; the place of a mutable one is reached over mutable references alone
pub record RefFits (E : KeyTypes) (s : Store) (m : Bool) (u : Place) (v : Val) : Type 0 where
  pub base : Key
  pub boxes : ℕ
  pub type : Exact
  pub res : Resolves E m u.key u.depth base boxes type
  pub whole : Whole type
  pub target : Location
  pub is : v ≡ ref_v target
  pub leads : below_key s base boxes ≡ Some target

-- the outermost part of a value is of that exact type
abbrev pub Fits : KeyTypes → Store → Exact → Val → Type 0
Fits E s (owns t) v = TopFits t v
Fits E s (refers m u) v = RefFits E s m u v

-- so many boxes below a location stands a value of that exact type
pub record Stands (E : KeyTypes) (s : Store) (l : Location) (n : ℕ) (p : Exact) : Type 0 where
  pub spot : Location
  pub value : Val
  pub leads : below_location s l n ≡ Some spot
  pub there : value_at s spot ≡ Some value
  pub fits : Fits E s p value

-- a typed store. Ranks order the keys, so that no reference leads round in a circle
pub record Typed (rank : Key → ℕ) (E : KeyTypes) (s : Store) : Type 0 where
  -- each level of each key's type is there
  pub stands : (k : Key) (n : ℕ) (p : Exact) → exact_under n (E k) ≡ Some p → Stands E s (at_key k) n p
  -- a reference's place starts at a lower key
  pub below : (k : Key) (m : Bool) (u : Place) → E k ≡ refers m u → rank u.key < rank k
  -- a key that is lent mutably is lent once
  pub once : (i j : Key) (m : Bool) (u v : Place) → E i ≡ refers true u → E j ≡ refers m v → v.key ≡ u.key → j ≡ i
  -- an object has one owner
  pub owner : (a b : Location) (o : ObjNo) → value_at s a ≡ Some (box_v o) → value_at s b ≡ Some (box_v o) → a ≡ b

-- no type names key i: it is not write blocked
abbrev pub Unnamed : KeyTypes → Key → Type 0
Unnamed E i = (j : Key) (m : Bool) (u : Place) → E j ≡ refers m u → u.key ≢ i

-- no mutable reference's type names key i: it is not read blocked
abbrev pub Unlent : KeyTypes → Key → Type 0
Unlent E i = (j : Key) (u : Place) → E j ≡ refers true u → u.key ≢ i
