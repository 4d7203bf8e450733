-- An exact type below a static one: where the types of Featherweight Rust name a set of places, the exact type names one of them.
use Rattle.std.specs.Prelude.{◌≡◌, ◌≢◌, ◌⊎◌, ℕ, suc, Bool, true, false, List, [], ◌∷◌, length}
use Rattle.fr_base.specs.declared.place.Lval.{Lval}
use Rattle.fr_typing.specs.Kinds.{Owned, unit, int, box, mutex, task, own, shared, mutable, view, Piece, whole, gone, boxed}
use Rattle.fr_typing.specs.Places.{Slot}
use Rattle.fr_store.specs.Keys.{Key}
use Rattle.fr_store.specs.Store.{Place}
use Rattle.fr_store.specs.Typed.{Tree, hole, unit_tree, int_tree, mutex_tree, task_tree, box_tree, Exact, owns, refers, KeyTypes, Resolves}
use Rattle.fr_store.specs.Rows.{tree_depth}

-- the tree of an owned type, of which all is there
abbrev pub tree_of : Owned → Tree
tree_of unit = unit_tree
tree_of int = int_tree
tree_of (box o) = box_tree (tree_of o)
tree_of (mutex o) = mutex_tree (tree_of o)
tree_of (task o) = task_tree (tree_of o)

-- u is one of the places
abbrev pub In : Lval → List Lval → Type 0
In u [] = ⊥
In u (v ∷ vs) = (u ≡ v) ⊎ In u vs

-- the place of the store is one of the set, where `key` gives the thread's slots their keys
pub record OneOf (key : ℕ → Key) (us : List Lval) (u : Place) : Type 0 where
  pub place : Lval
  pub is : u ≡ (record { key = key place.slot; depth = place.depth })
  pub among : In place us

-- the place is one of another thread, and leads to an owned value of that type (this project's rule: views)
pub record Seen (key : ℕ → Key) (E : KeyTypes) (o : Owned) (u : Place) : Type 0 where
  pub foreign : (x : ℕ) → u.key ≢ key x
  pub base : Key
  pub boxes : ℕ
  pub res : Resolves E false u.key u.depth base boxes (owns (tree_of o))

-- a tree of that part
abbrev pub TreeOf : Piece → Tree → Type 0
TreeOf (whole (own o)) t = t ≡ tree_of o
TreeOf (whole (shared us)) t = ⊥
TreeOf (whole (mutable us)) t = ⊥
TreeOf (whole (view o)) t = ⊥
TreeOf (gone k) t = t ≡ hole
TreeOf (boxed p) t = (x : Tree) × (t ≡ box_tree x) × TreeOf p x

-- how many links it takes at most to drop a value of that part
abbrev pub piece_depth : Piece → ℕ
piece_depth (whole (own o)) = tree_depth (tree_of o)
piece_depth (whole (shared us)) = 1
piece_depth (whole (mutable us)) = 1
piece_depth (whole (view o)) = 1
piece_depth (gone k) = 1
piece_depth (boxed p) = suc (piece_depth p)

-- a reference of that part
abbrev pub RefOf : (ℕ → Key) → KeyTypes → Piece → Bool → Place → Type 0
RefOf key E (whole (shared us)) m u = (m ≡ false) × OneOf key us u
RefOf key E (whole (mutable us)) m u = (m ≡ true) × OneOf key us u
RefOf key E (whole (view o)) m u = (m ≡ false) × Seen key E o u
RefOf key E _ m u = ⊥

-- the exact type is one of that part
abbrev pub ExactOf : (ℕ → Key) → KeyTypes → Piece → Exact → Type 0
ExactOf key E q (owns t) = TreeOf q t
ExactOf key E q (refers m u) = RefOf key E q m u

-- the slots of one thread have exact types of their parts
abbrev pub SlotsBelow : (ℕ → Key) → KeyTypes → List Slot → Type 0
SlotsBelow key E [] = Unit {0}
SlotsBelow key E (s ∷ e) = ExactOf key E s.part (E (key (length e))) × SlotsBelow key E e

-- slots of different numbers have different keys
abbrev pub Apart : (ℕ → Key) → Type 0
Apart key = (x y : ℕ) → key x ≡ key y → x ≡ y
