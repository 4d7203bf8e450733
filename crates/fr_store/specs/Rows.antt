-- The operations on a typed store, each as the function that it is, with what must hold before it (this project's rules;
-- what each does is Featherweight Rust's).
use Rattle.std.specs.Prelude.{◌≡◌, ◌≢◌, ℕ, suc, ◌<◌, ◌≤◌, Bool, true, false, Some, None, if◌then◌else◌}
use Rattle.fr_base.specs.declared.name.ObjNo.{ObjNo}
use Rattle.fr_store.specs.Keys.{Key, same_key}
use Rattle.fr_store.specs.Store.{Alike, Location, at_key, Val, gone_v, box_v, ref_v, Store, value_at, Place, locate, below_key, put_value, swap, make, drop_value}
use Rattle.fr_store.specs.Typed.{Tree, hole, box_tree, Exact, owns, refers, KeyTypes, Whole, tree_under, Resolves, Loaned, Fits, Typed, Unnamed, Unlent}
use Rattle.fr_store.specs.Changes.{put_tree}

-- key a gets another type
abbrev pub with_type : KeyTypes → Key → Exact → KeyTypes
with_type E a p = λ j. if same_key j a then p else E j

-- how many links it takes to drop a value of that tree
abbrev pub tree_depth : Tree → ℕ
tree_depth (box_tree t) = suc (tree_depth t)
tree_depth _ = 1

-- where place w leads, and what stands there
pub record PlaceFound (E : KeyTypes) (s : Store) (w : Place) (b : Key) (n : ℕ) (p : Exact) : Type 0 where
  pub loc : Location
  pub value : Val
  pub at : locate s w ≡ Some loc
  pub chain : below_key s b n ≡ Some loc
  pub there : value_at s loc ≡ Some value
  pub fits : Fits E s p value

-- a place that the types resolve leads somewhere, and to a value of that type: nothing is ever stuck at it
abbrev pub FoundLaw : Type 0
FoundLaw = (rank : Key → ℕ) (E : KeyTypes) (s : Store) (only : Bool) (w : Place) (b : Key) (n : ℕ) (p : Exact)
    → Typed rank E s
    → Resolves E only w.key w.depth b n p
    → PlaceFound E s w b n p

-- not blocked for a mutable borrow, or for a shared one
abbrev pub FreeFor : Bool → KeyTypes → Key → Type 0
FreeFor true E k = Unnamed E k
FreeFor false E k = Unlent E k

-- `&w` and `&mut w` into key a. A view of what the reference in a slot leads to is `&` of that slot under one star
abbrev pub BorrowLaw : Type 0
BorrowLaw = (rank : Key → ℕ) (E : KeyTypes) (s : Store) (a : Key) (m : Bool) (w : Place) (b : Key) (n : ℕ) (p : Exact) (l : Location)
    → Typed rank E s
    → Unnamed E a
    → Resolves E m w.key w.depth b n p
    → Whole p
    → FreeFor m E w.key
    → w.key ≢ a
    → rank w.key < rank a
    → locate s w ≡ Some l
    → Typed rank (with_type E a (refers m w)) (put_value s (at_key a) (ref_v l))

-- a copied reference into key a
abbrev pub CopyLaw : Type 0
CopyLaw = (rank : Key → ℕ) (E : KeyTypes) (s : Store) (a : Key) (only : Bool) (w : Place) (b : Key) (n : ℕ) (u : Place) (l : Location) (v : Val)
    → Typed rank E s
    → Unnamed E a
    → Resolves E only w.key w.depth b n (refers false u)
    → rank b < rank a
    → locate s w ≡ Some l
    → value_at s l ≡ Some v
    → Typed rank (with_type E a (refers false u)) (put_value s (at_key a) v)

-- a reference moves from key x to key a
abbrev pub MoveRefLaw : Type 0
MoveRefLaw = (rank : Key → ℕ) (E : KeyTypes) (s : Store) (x a : Key) (m : Bool) (u : Place)
    → Typed rank E s
    → Unnamed E x
    → Unnamed E a
    → x ≢ a
    → E x ≡ refers m u
    → rank u.key < rank a
    → Typed rank (with_type (with_type E x (owns hole)) a (refers m u)) (put_value (put_value s (at_key x) gone_v) (at_key a) (s.at x))

-- what key a owns and what stands under key x's own boxes change places: moving out, a new slot, assignment
abbrev pub SwapOwnLaw : Type 0
SwapOwnLaw = (rank : Key → ℕ) (E : KeyTypes) (s : Store) (a x : Key) (d : ℕ) (th t t0 : Tree) (l : Location)
    → Typed rank E s
    → Unnamed E a
    → a ≢ x
    → E a ≡ owns th
    → Unnamed E x
    → E x ≡ owns t
    → tree_under d t ≡ Some t0
    → locate s (record { key = x; depth = d }) ≡ Some l
    → Typed rank (with_type (with_type E x (owns (put_tree d th t))) a (owns t0)) (swap s a l)

-- what key a owns and what stands behind mutable references change places: no type changes
abbrev pub SwapThroughLaw : Type 0
SwapThroughLaw = (rank : Key → ℕ) (E : KeyTypes) (s : Store) (a : Key) (w : Place) (b : Key) (n : ℕ) (t0 : Tree) (l : Location)
    → Typed rank E s
    → Unnamed E a
    → a ≢ w.key
    → E a ≡ owns t0
    → Unnamed E w.key
    → Resolves E true w.key w.depth b n (owns t0)
    → locate s w ≡ Some l
    → Typed rank E (swap s a l)

-- a box around the value of key a
abbrev pub BoxLaw : Type 0
BoxLaw = (rank : Key → ℕ) (E : KeyTypes) (s : Store) (a : Key) (t : Tree) (o : ObjNo)
    → Typed rank E s
    → Unnamed E a
    → E a ≡ owns t
    → s.heap o ≡ None
    → ((l : Location) → value_at s l ≡ Some (box_v o) → ⊥)
    → Typed rank (with_type E a (owns (box_tree t))) (make s a o)

-- the end of the value that key a owns
abbrev pub DropLaw : Type 0
DropLaw = (rank : Key → ℕ) (E : KeyTypes) (s : Store) (a : Key) (t : Tree) (fuel : ℕ)
    → Typed rank E s
    → Unnamed E a
    → E a ≡ owns t
    → tree_depth t ≤ fuel
    → Typed rank (with_type E a (owns hole)) (drop_value fuel a s)

-- the end of a reference at key a, and of anything that owns no object
abbrev pub ForgetLaw : Type 0
ForgetLaw = (rank : Key → ℕ) (E : KeyTypes) (s : Store) (a : Key)
    → Typed rank E s
    → Unnamed E a
    → Typed rank (with_type E a (owns hole)) (put_value s (at_key a) gone_v)

-- whoever refers into the chain that a writable place leads to stands on the way to it, and refers to nothing deeper
abbrev pub SoleLaw : Type 0
SoleLaw = (rank : Key → ℕ) (E : KeyTypes) (s : Store) (w : Place) (b : Key) (n i : ℕ) (p : Exact) (j : Key) (l : Location)
    → Typed rank E s
    → Unnamed E w.key
    → Resolves E true w.key w.depth b n p
    → s.at j ≡ ref_v l
    → below_key s b i ≡ Some l
    → (i ≤ n) × Loaned E w.key j

-- only what stands at each key and at each location counts
abbrev pub SameLaw : Type 0
SameLaw = (rank : Key → ℕ) (E E2 : KeyTypes) (s s2 : Store)
    → Typed rank E s
    → ((k : Key) → E2 k ≡ E k)
    → Alike s s2
    → Typed rank E2 s2
