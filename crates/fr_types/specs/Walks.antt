-- Shapes, level by level, as a walk by reference sees them.
use Rattle.std.specs.Prelude.{◌≡◌, ℕ, suc, ◌+◌, ⊤, Bool, true, false, List, [], ◌∷◌, Option, Some, None}
use Rattle.fr_base.specs.declared.place.Lval.{Lval}
use Rattle.fr_typing.specs.Kinds.{unit, int, mutex, task, same_owned, Kind, own, shared, mutable, view, Piece, whole, gone, boxed, map_some}
use Rattle.fr_typing.specs.Places.{Shape, owned_shape, shared_to, mutable_to, same_owned_shape, kind_shape, piece_shape}
use Rattle.fr_typing.specs.Checks.{owned_levels}
use Rattle.fr_types.specs.declared.walk.At.{At}
use Rattle.fr_types.specs.declared.walk.At.TheVariants.{InPart, InType, InOwned}
use Rattle.fr_types.specs.declared.walk.Level.{Level}
use Rattle.fr_types.specs.declared.walk.Level.TheVariants.{Unit, Int, Box, Mutex, Task, View, Shared, Mut, Nothing}
use Rattle.fr_types.specs.OwnedTypes.{owned_of}
use Rattle.fr_types.specs.Types.{kind_of, piece_of}
use Rattle.fr_types.specs.ShapeTables.{is_owned_shape}

-- the shape of what stands there, by those of places
abbrev pub at_shape : (Lval → Option Shape) → At → Option Shape
at_shape look (InPart p) = piece_shape look (piece_of p.now)
at_shape look (InType t) = kind_shape look (kind_of t.now)
at_shape look (InOwned o) = Some (owned_shape (owned_of o.now))

abbrev pub level_shape : (Lval → Option Shape) → Level → Option Shape
level_shape look Unit = Some (owned_shape unit)
level_shape look Int = Some (owned_shape int)
level_shape look (Box x) = same_owned_shape (at_shape look x)
level_shape look (Mutex o) = Some (owned_shape (mutex (owned_of o.now)))
level_shape look (Task o) = Some (owned_shape (task (owned_of o.now)))
level_shape look (View o) = Some (shared_to (owned_shape (owned_of o.now)))
level_shape look (Shared u) = map_some shared_to (look u)
level_shape look (Mut u) = map_some mutable_to (look u)
level_shape look Nothing = None

-- a box holds what has the shape of an owned type
abbrev pub HoldsOwned : Level → Type 0
HoldsOwned (Box x) = (look : Lval → Option Shape) → is_owned_shape (at_shape look x) ≡ true
HoldsOwned _ = ⊤

abbrev pub level_in : (Lval → Option Shape) → Option Level → Option Shape
level_in look None = None
level_in look (Some l) = level_shape look l

-- the shape to which a reference or a view leads
abbrev pub target_shape : (Lval → Option Shape) → Level → Option Shape
target_shape look (View o) = Some (owned_shape (owned_of o.now))
target_shape look (Shared u) = look u
target_shape look (Mut u) = look u
target_shape look _ = None

-- both are references of one sort
abbrev pub may_go : Level → Level → Bool
may_go (Shared u) (Shared v) = true
may_go (Shared u) (View o) = true
may_go (View o) (Shared v) = true
may_go (View o) (View q) = true
may_go (Mut u) (Mut v) = true
may_go _ _ = false

-- both are shapes of owned types, and equal
abbrev pub equal_owned : Option Shape → Option Shape → Bool
equal_owned (Some (owned_shape a)) (Some (owned_shape b)) = same_owned a b
equal_owned _ _ = false

-- references lead to what has a lower rank
abbrev pub first_rank : List Lval → ℕ
first_rank [] = 1
first_rank (u ∷ us) = u.slot + 2

abbrev pub kind_rank : Kind → ℕ
kind_rank (own o) = 0
kind_rank (view o) = 1
kind_rank (shared us) = first_rank us
kind_rank (mutable us) = first_rank us

abbrev pub piece_rank : Piece → ℕ
piece_rank (whole k) = kind_rank k
piece_rank (gone k) = kind_rank k
piece_rank (boxed p) = 0

abbrev pub at_rank : At → ℕ
at_rank (InPart p) = piece_rank (piece_of p.now)
at_rank (InType t) = kind_rank (kind_of t.now)
at_rank (InOwned o) = 0

abbrev pub level_rank : Level → ℕ
level_rank (View o) = 1
level_rank (Shared u) = u.slot + 2
level_rank (Mut u) = u.slot + 2
level_rank _ = 0

-- owned types and boxes hold what is smaller
abbrev pub kind_size : Kind → ℕ
kind_size (own o) = owned_levels o
kind_size _ = 0

abbrev pub piece_size : Piece → ℕ
piece_size (whole k) = kind_size k
piece_size (gone k) = kind_size k
piece_size (boxed p) = suc (piece_size p)

abbrev pub at_size : At → ℕ
at_size (InPart p) = piece_size (piece_of p.now)
at_size (InType t) = kind_size (kind_of t.now)
at_size (InOwned o) = owned_levels (owned_of o.now)

abbrev pub level_size : Level → ℕ
level_size (Box x) = suc (at_size x)
level_size _ = 0
