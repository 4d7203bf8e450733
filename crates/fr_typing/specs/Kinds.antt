-- Types and parts of Featherweight Rust, without the code's pointers. A reference's type names a set of places
-- (one place until branches are joined), in rising order without repeats.
use Rattle.std.specs.Prelude.{Bool, true, false, ◌&&◌, ◌||◌, ◌==◌, nat_lt, List, [], ◌∷◌, Option, Some, None, if◌then◌else◌}
use Rattle.fr_base.specs.declared.place.Lval.{Lval}

-- an owned type
pub data Owned : Type 0 where
  unit : Owned
  int : Owned
  box : Owned → Owned
  mutex : Owned → Owned
  task : Owned → Owned

-- a type: owned, or a reference to one of a set of places, or a view
pub data Kind : Type 0 where
  own : Owned → Kind
  shared : List Lval → Kind
  mutable : List Lval → Kind
  view : Owned → Kind

-- a part: whole, gone, or a box around a part
pub data Piece : Type 0 where
  whole : Kind → Piece
  gone : Kind → Piece
  boxed : Piece → Piece

abbrev pub same_owned : Owned → Owned → Bool
same_owned unit unit = true
same_owned int int = true
same_owned (box a) (box b) = same_owned a b
same_owned (mutex a) (mutex b) = same_owned a b
same_owned (task a) (task b) = same_owned a b
same_owned _ _ = false

-- a box around a part; around a whole part it counts as whole
abbrev pub box_of : Piece → Piece
box_of (whole (own o)) = whole (own (box o))
box_of p = boxed p

abbrev pub lval_lt : Lval → Lval → Bool
lval_lt u v = nat_lt u.slot v.slot || (u.slot == v.slot && nat_lt u.depth v.depth)

abbrev pub insert_lval : Lval → List Lval → List Lval
insert_lval u [] = u ∷ []
insert_lval u (v ∷ vs) =
    if lval_lt u v then u ∷ v ∷ vs else (if lval_lt v u then v ∷ insert_lval u vs else v ∷ vs)

-- two sets of places together, in order
abbrev pub union : List Lval → List Lval → List Lval
union [] vs = vs
union (u ∷ us) vs = insert_lval u (union us vs)

-- a test of two sets of places
abbrev pub SetTest : Type 0
SetTest = List Lval → List Lval → Bool

-- the join of two types, where `same` tells whether the places of two sets have one shape
abbrev pub join_kind : SetTest → Kind → Kind → Option Kind
join_kind same (own a) (own b) = if same_owned a b then Some (own a) else None
join_kind same (view a) (view b) = if same_owned a b then Some (view a) else None
join_kind same (shared us) (shared vs) = if same us vs then Some (shared (union us vs)) else None
join_kind same (mutable us) (mutable vs) = if same us vs then Some (mutable (union us vs)) else None
join_kind same _ _ = None

abbrev pub map_some : {A B : Type 0} → (A → B) → Option A → Option B
map_some f None = None
map_some f (Some x) = Some (f x)

-- the join of two parts: both whole, both gone or both boxes
abbrev pub join_piece : SetTest → Piece → Piece → Option Piece
join_piece same (whole a) (whole b) = map_some whole (join_kind same a b)
join_piece same (gone a) (gone b) = map_some gone (join_kind same a b)
join_piece same (boxed p) (boxed q) = map_some boxed (join_piece same p q)
join_piece same _ _ = None

-- copied when read; all other types are moved
abbrev pub copies : Kind → Bool
copies (own unit) = true
copies (own int) = true
copies (own _) = false
copies (shared us) = true
copies (mutable us) = false
copies (view o) = true
