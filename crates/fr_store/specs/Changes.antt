-- The four changes that all operations are made of, and that each keeps a store typed (this project's rules).
use Rattle.std.specs.Prelude.{◌≡◌, ◌≢◌, ℕ, zero, suc, ℤ, ◌<◌, ◌≤◌, Bool, false, Some, None}
use Rattle.fr_base.specs.declared.name.ObjNo.{ObjNo}
use Rattle.fr_store.specs.Keys.{Key}
use Rattle.fr_store.specs.Store.{Location, at_key, at_object, Val, gone_v, unit_v, int_v, box_v, task_v, Store, value_at, Place, below_key}
use Rattle.fr_store.specs.Typed.{Tree, hole, unit_tree, int_tree, task_tree, box_tree, Exact, owns, refers, KeyTypes, tree_under, exact_under, Resolves, RefFits, Typed, Unnamed}

-- the types are the same but at one key
abbrev pub TypesBut : Key → KeyTypes → KeyTypes → Type 0
TypesBut a E E2 = (j : Key) → j ≢ a → E2 j ≡ E j

-- or at two keys
abbrev pub TypesButTwo : Key → Key → KeyTypes → KeyTypes → Type 0
TypesButTwo a b E E2 = (j : Key) → j ≢ a → j ≢ b → E2 j ≡ E j

-- the values are the same but at one location
abbrev pub SameBut : Location → Store → Store → Type 0
SameBut a s s2 = (l : Location) → l ≢ a → value_at s2 l ≡ value_at s l

-- or at two locations
abbrev pub SameButTwo : Location → Location → Store → Store → Type 0
SameButTwo a b s s2 = (l : Location) → l ≢ a → l ≢ b → value_at s2 l ≡ value_at s l

-- the tree with another one so many boxes below
abbrev pub put_tree : ℕ → Tree → Tree → Tree
put_tree zero new t = new
put_tree (suc n) new (box_tree t) = box_tree (put_tree n new t)
put_tree (suc n) new t = t

-- a type and a value that own no object (a task owns none). A new reference is to a place whose key no type names, or, where it is shared,
-- no mutable reference's type
pub data New (rank : Key → ℕ) (E : KeyTypes) (s : Store) (a : Key) : Exact → Val → Type 0 where
  new_hole : New rank E s a (owns hole) gone_v
  new_unit : New rank E s a (owns unit_tree) unit_v
  new_int : (n : ℤ) → New rank E s a (owns int_tree) (int_v n)
  new_task : (m : ℕ) (t : Tree) → New rank E s a (owns (task_tree t)) (task_v m t)
  new_ref : (m : Bool) (u : Place) (v : Val) → RefFits E s m u v → u.key ≢ a → rank u.key < rank a
      → ((j : Key) (q : Bool) (w : Place) → E j ≡ refers q w → j ≢ a → w.key ≡ u.key → (m ≡ false) × (q ≡ false)) → New rank E s a (refers m u) v

-- set: a key that no type names gets a value that owns no object
abbrev pub SetLaw : Type 0
SetLaw = (rank : Key → ℕ) (E E2 : KeyTypes) (s s2 : Store) (a : Key)
    → Typed rank E s
    → Unnamed E a
    → TypesBut a E E2
    → SameBut (at_key a) s s2
    → New rank E s a (E2 a) (s2.at a)
    → Typed rank E2 s2

-- unbox: one link of a drop. Key h has a box of o; its object leaves, and h has what it held
abbrev pub UnboxLaw : Type 0
UnboxLaw = (rank : Key → ℕ) (E E2 : KeyTypes) (s s2 : Store) (h : Key) (t : Tree) (o : ObjNo)
    → Typed rank E s
    → Unnamed E h
    → TypesBut h E E2
    → E h ≡ owns (box_tree t)
    → E2 h ≡ owns t
    → SameButTwo (at_key h) (at_object o) s s2
    → s.at h ≡ box_v o
    → Some (s2.at h) ≡ s.heap o
    → s2.heap o ≡ None
    → Typed rank E2 s2

-- make: object o is new and holds what key h owned, and h has its box
abbrev pub MakeLaw : Type 0
MakeLaw = (rank : Key → ℕ) (E E2 : KeyTypes) (s s2 : Store) (h : Key) (t : Tree) (o : ObjNo)
    → Typed rank E s
    → Unnamed E h
    → TypesBut h E E2
    → E h ≡ owns t
    → E2 h ≡ owns (box_tree t)
    → SameButTwo (at_key h) (at_object o) s s2
    → s.heap o ≡ None
    → ((l : Location) → value_at s l ≡ Some (box_v o) → ⊥)
    → s2.at h ≡ box_v o
    → s2.heap o ≡ Some (s.at h)
    → Typed rank E2 s2

-- swap: what key h owns and what is n boxes below key b change places. No reference leads below that in b's chain,
-- and those into the chain keep their types
abbrev pub SwapLaw : Type 0
SwapLaw = (rank : Key → ℕ) (E E2 : KeyTypes) (s s2 : Store) (h b : Key) (n : ℕ) (th t t0 : Tree) (l : Location)
    → Typed rank E s
    → Unnamed E h
    → h ≢ b
    → E h ≡ owns th
    → E b ≡ owns t
    → tree_under n t ≡ Some t0
    → E2 h ≡ owns t0
    → E2 b ≡ owns (put_tree n th t)
    → TypesButTwo h b E E2
    → ((j : Key) (m : Bool) (u : Place) (i : ℕ) (p : Exact) → E j ≡ refers m u → Resolves E m u.key u.depth b i p → (i ≤ n) × (exact_under i (E2 b) ≡ Some p))
    → below_key s b n ≡ Some l
    → SameButTwo (at_key h) l s s2
    → value_at s2 l ≡ Some (s.at h)
    → Some (s2.at h) ≡ value_at s l
    → Typed rank E2 s2
