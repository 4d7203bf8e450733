-- The shape and the type of a place, and when a place is blocked.
use Rattle.std.specs.Prelude.{ℕ, ◌<◌, zero, suc, Bool, true, false, not, ◌&&◌, ◌||◌, ◌==◌, List, [], ◌∷◌, length, Option, Some, None, if◌then◌else◌}
use Rattle.std.specs.List.{list_all, list_any}
use Rattle.fr_base.specs.declared.place.Lval.{Lval}
use Rattle.fr_terms.specs.Terms.{Text, same_text}
use Rattle.fr_typing.specs.Kinds.{Owned, box, same_owned, Kind, own, shared, mutable, view, Piece, whole, gone, boxed, box_of, SetTest, join_piece, map_some}

-- a slot: its name, where it has one, and its part
pub record Slot : Type 0 where
  pub name : Option Text
  pub part : Piece

-- the slots, the last one first; a slot's number is the number of slots before it
abbrev pub Env : Type 0
Env = List Slot

-- SHAPES

pub data Shape : Type 0 where
  owned_shape : Owned → Shape
  shared_to : Shape → Shape
  mutable_to : Shape → Shape

abbrev pub same_owned_shape : Option Shape → Option Shape
same_owned_shape (Some (owned_shape o)) = Some (owned_shape (box o))
same_owned_shape _ = None

abbrev pub first_shape : (Lval → Option Shape) → List Lval → Option Shape
first_shape look [] = None
first_shape look (u ∷ us) = look u

abbrev pub kind_shape : (Lval → Option Shape) → Kind → Option Shape
kind_shape look (own o) = Some (owned_shape o)
kind_shape look (view o) = Some (shared_to (owned_shape o))
kind_shape look (shared us) = map_some shared_to (first_shape look us)
kind_shape look (mutable us) = map_some mutable_to (first_shape look us)

abbrev pub piece_shape : (Lval → Option Shape) → Piece → Option Shape
piece_shape look (whole k) = kind_shape look k
piece_shape look (gone k) = kind_shape look k
piece_shape look (boxed p) = same_owned_shape (piece_shape look p)

-- so many stars on a shape: a box to what it holds, a reference to what it is to
abbrev pub star_shape : Option Shape → Option Shape
star_shape (Some (owned_shape (box o))) = Some (owned_shape o)
star_shape (Some (shared_to a)) = Some a
star_shape (Some (mutable_to a)) = Some a
star_shape _ = None

abbrev pub stars_shape : ℕ → Option Shape → Option Shape
stars_shape zero a = a
stars_shape (suc n) a = star_shape (stars_shape n a)

-- the shape of a place, which has one also where something on its path is gone: the shape of a slot never changes
abbrev pub shape_at : Env → Lval → Option Shape
shape_at [] w = None
shape_at (s ∷ below) w =
    if w.slot == length below then stars_shape w.depth (piece_shape (shape_at below) s.part) else shape_at below w

abbrev pub same_shape : Shape → Shape → Bool
same_shape (owned_shape a) (owned_shape b) = same_owned a b
same_shape (shared_to a) (shared_to b) = same_shape a b
same_shape (mutable_to a) (mutable_to b) = same_shape a b
same_shape _ _ = false

abbrev pub equal_shapes : Option Shape → Option Shape → Bool
equal_shapes (Some a) (Some b) = same_shape a b
equal_shapes _ _ = false

-- each place of a set has this shape
abbrev pub have_shape : (Lval → Option Shape) → Option Shape → List Lval → Bool
have_shape look a us = list_all (λ u. equal_shapes a (look u)) us

-- the places of two sets have one shape: that of the first one
abbrev pub have_one_shape : (Lval → Option Shape) → List Lval → List Lval → Bool
have_one_shape look us vs = have_shape look (first_shape look us) us && have_shape look (first_shape look us) vs

-- the same in an environment
abbrev pub alike : Env → List Lval → List Lval → Bool
alike e us vs = have_one_shape (shape_at e) us vs

-- TYPES

-- the type of a place
pub data Found : Type 0 where
  found : Piece → Found
  undefined : Found
  no_target : Found

abbrev pub then_found : Found → (Piece → Found) → Found
then_found (found p) go = go p
then_found undefined go = undefined
then_found no_target go = no_target

abbrev pub found_or_none : Option Piece → Found
found_or_none None = no_target
found_or_none (Some p) = found p

-- the join of what two places have
abbrev pub join_found : SetTest → Found → Found → Found
join_found same (found p) (found q) = found_or_none (join_piece same p q)
join_found same (found p) f = f
join_found same f g = f

-- the join of what the places of a set have
abbrev pub join_all : SetTest → (Lval → Found) → Found → List Lval → Found
join_all same look f [] = f
join_all same look f (u ∷ us) = join_all same look (join_found same f (look u)) us

abbrev pub join_set : SetTest → (Lval → Found) → List Lval → Found
join_set same look [] = no_target
join_set same look (u ∷ us) = join_all same look (look u) us

-- what a star takes a type to: `look` gives the types of lower places, `same` tells which sets of them have one shape
abbrev pub star_kind : SetTest → (Lval → Found) → Kind → Found
star_kind same look (own (box o)) = found (whole (own o))
star_kind same look (own o) = no_target
star_kind same look (view o) = found (whole (own o))
star_kind same look (shared us) = join_set same look us
star_kind same look (mutable us) = join_set same look us

abbrev pub star : SetTest → (Lval → Found) → Piece → Found
star same look (whole k) = star_kind same look k
star same look (gone k) = undefined
star same look (boxed p) = found p

-- so many stars on a part, from the inside
abbrev pub stars : SetTest → (Lval → Found) → ℕ → Piece → Found
stars same look zero p = found p
stars same look (suc n) p = then_found (stars same look n p) (star same look)

-- the type of the variable of number `slot` under `n` stars
abbrev pub type_at : Env → Lval → Found
type_at [] w = no_target
type_at (s ∷ below) w = if w.slot == length below then stars (alike below) (type_at below) w.depth s.part else type_at below w

-- some place of the set starts at this variable
abbrev pub starts_at : ℕ → List Lval → Bool
starts_at x us = list_any (λ u. u.slot == x) us

abbrev pub blocks_read : ℕ → Piece → Bool
blocks_read x (whole (mutable us)) = starts_at x us
blocks_read x _ = false

abbrev pub blocks_write : ℕ → Piece → Bool
blocks_write x (whole (mutable us)) = starts_at x us
blocks_write x (whole (shared us)) = starts_at x us
blocks_write x _ = false

-- some slot's type has a mutable reference that starts at this variable
abbrev pub read_blocked : Env → ℕ → Bool
read_blocked e x = list_any (λ s. blocks_read x s.part) e

-- some slot's type has a reference that starts at this variable
abbrev pub write_blocked : Env → ℕ → Bool
write_blocked e x = list_any (λ s. blocks_write x s.part) e

-- what stands on the path: the place with fewer stars
abbrev pub on_path : (Found → Bool) → Env → ℕ → ℕ → Bool
on_path test e x zero = false
on_path test e x (suc n) = on_path test e x n || test (type_at e (record { slot = x; depth = n }))

abbrev pub is_lent : Found → Bool
is_lent (found (whole (shared us))) = true
is_lent (found (whole (view o))) = true
is_lent _ = false

abbrev pub is_mutable : Found → Bool
is_mutable (found (whole (mutable us))) = true
is_mutable _ = false

abbrev pub is_writable : Env → Lval → Bool
is_writable e w = not (on_path is_lent e w.slot w.depth)

abbrev pub is_own_path : Env → Lval → Bool
is_own_path e w = not (on_path (λ f. is_lent f || is_mutable f) e w.slot w.depth)

-- what stands at a place leads into the heap: a box or a view, or a reference to heap places alone
abbrev pub leads_to_heap : (Lval → Bool) → Found → Bool
leads_to_heap look (found (boxed p)) = true
leads_to_heap look (found (whole (own (box o)))) = true
leads_to_heap look (found (whole (view o))) = true
leads_to_heap look (found (whole (shared us))) = list_all look us
leads_to_heap look (found (whole (mutable us))) = list_all look us
leads_to_heap look f = false

-- what stands one star less far leads there
abbrev pub leads_by_star : (Lval → Bool) → Env → ℕ → ℕ → Bool
leads_by_star look e x zero = false
leads_by_star look e x (suc n) = leads_to_heap look (type_at e (record { slot = x; depth = n }))

-- the place is in the heap, whoever owns it (this project's rule)
abbrev pub is_heap_place : Env → Lval → Bool
is_heap_place [] w = false
is_heap_place (s ∷ below) w =
    if w.slot == length below then leads_by_star (is_heap_place below) (s ∷ below) w.slot w.depth else is_heap_place below w

abbrev pub whole_owned : Found → Option Owned
whole_owned (found (whole (own o))) = Some o
whole_owned f = None

-- the one owned type that the places of a set have, where all are heap places
abbrev pub heap_type : Env → List Lval → Option Owned
heap_type e us = if list_all (is_heap_place e) us then whole_owned (join_set (alike e) (type_at e) us) else None

-- a part with what stands under `n` boxes replaced
abbrev pub put_under : ℕ → Piece → Piece → Piece
put_under zero new p = new
put_under (suc n) new (boxed p) = box_of (put_under n new p)
put_under (suc n) new (whole (own (box o))) = box_of (put_under n new (whole (own o)))
put_under (suc n) new p = p

-- the environment after a write to a place whose path is its own
abbrev pub put_at : Env → Lval → Piece → Env
put_at [] w new = []
put_at (s ∷ below) w new =
    if w.slot == length below then record s { part = put_under w.depth new s.part } ∷ below else s ∷ put_at below w new

-- the slot of a name
abbrev pub same_name : Option Text → Text → Bool
same_name None x = false
same_name (Some y) x = same_text y x

abbrev pub slot_of : Env → Text → Option ℕ
slot_of [] x = None
slot_of (s ∷ below) x = if same_name s.name x then Some (length below) else slot_of below x

-- the places that a type names
abbrev pub kind_places : Kind → List Lval
kind_places (shared us) = us
kind_places (mutable us) = us
kind_places _ = []

abbrev pub piece_places : Piece → List Lval
piece_places (whole k) = kind_places k
piece_places (gone k) = kind_places k
piece_places (boxed p) = piece_places p

abbrev pub AreBelow : ℕ → List Lval → Type 0
AreBelow n [] = Unit {0}
AreBelow n (u ∷ us) = (u.slot < n) × AreBelow n us

-- each part names only slots below its own
abbrev pub IsNested : Env → Type 0
IsNested [] = Unit {0}
IsNested (s ∷ below) = AreBelow (length below) (piece_places s.part) × IsNested below
