-- The shapes of slots, the last slot first, as far as they are known.
use Rattle.std.specs.Prelude.{◌≡◌, ℕ, ◌==◌, Bool, ⊤, List, [], ◌∷◌, length, drop, Option, Some, None, if◌then◌else◌}
use Rattle.fr_base.specs.declared.place.Lval.{Lval}
use Rattle.fr_typing.specs.Kinds.{Kind, Piece}
use Rattle.fr_typing.specs.Places.{Shape, kind_shape, piece_shape, stars_shape, equal_shapes}
use Rattle.fr_types.specs.States.{Held}
use Rattle.fr_types.specs.ShapeTables.{shape_of_no, IsNumber}

-- the shape of a slot
abbrev pub slot_shape : List (Option Shape) → ℕ → Option Shape
slot_shape [] n = None
slot_shape (s ∷ below) n = if n == length below then s else slot_shape below n

-- of a place: a slot's shape under stars
abbrev pub place_shape : List (Option Shape) → Lval → Option Shape
place_shape ss u = stars_shape u.depth (slot_shape ss u.slot)

-- the shapes of an environment's slots
abbrev pub shapes_in : List Held → List (Option Shape)
shapes_in [] = []
shapes_in (s ∷ below) = piece_shape (place_shape (shapes_in below)) s.part ∷ shapes_in below

-- slots' shapes; `None`: they aren't known any longer
abbrev pub Known : Type 0
Known = Option (List (Option Shape))

-- one more slot
abbrev pub with_part : Known → Piece → Known
with_part None p = None
with_part (Some ss) p = Some (piece_shape (place_shape ss) p ∷ ss)

-- the last one goes
abbrev pub without_last : Known → Known
without_last None = None
without_last (Some ss) = Some (drop 1 ss)

-- one part in place of another: what is known is lost unless both have one shape
abbrev pub with_change : Known → Piece → Piece → Known
with_change None p q = None
with_change (Some ss) p q = if equal_shapes (piece_shape (place_shape ss) p) (piece_shape (place_shape ss) q) then Some ss else None

-- whether two types have one shape, and a part and a type
abbrev pub known_same : Known → Kind → Kind → Option Bool
known_same None a b = None
known_same (Some ss) a b = Some (equal_shapes (kind_shape (place_shape ss) a) (kind_shape (place_shape ss) b))

abbrev pub known_fits : Known → Piece → Kind → Option Bool
known_fits None p k = None
known_fits (Some ss) p k = Some (equal_shapes (piece_shape (place_shape ss) p) (kind_shape (place_shape ss) k))

-- and two places
abbrev pub known_places : Known → Lval → Lval → Option Bool
known_places None u v = None
known_places (Some ss) u v = Some (equal_shapes (place_shape ss u) (place_shape ss v))

-- what is known is right
abbrev pub AreShapes : List Held → Known → Type 0
AreShapes vs None = ⊤
AreShapes vs (Some ss) = ss ≡ shapes_in vs

-- the shapes of these numbers, in order, above those
abbrev pub shapes_above : List Shape → List (Option Shape) → List (Option ℕ) → List (Option Shape)
shapes_above table below [] = below
shapes_above table below (n ∷ ns) = shapes_above table (shape_of_no table n ∷ below) ns

abbrev pub shapes_by : List Shape → List (Option ℕ) → List (Option Shape)
shapes_by table ns = shapes_above table [] ns

-- each is a number of the table, or none
abbrev pub AreNumbers : List Shape → List (Option ℕ) → Type 0
AreNumbers table [] = ⊤
AreNumbers table (n ∷ ns) = IsNumber table n × AreNumbers table ns

abbrev pub when_known : Bool → List (Option Shape) → Known
when_known known ss = if known then Some ss else None
