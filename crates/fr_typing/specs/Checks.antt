-- The checks that typing makes (Featherweight Rust with this project's rules).
use Rattle.std.specs.Prelude.{ℕ, suc, [], ◌∷◌, Bool, true, false, not, ◌&&◌, nat_lt, nat_le, ◌-◌, length, drop, Option, Some, None, if◌then◌else◌}
use Rattle.std.specs.List.{list_any}
use Rattle.fr_base.specs.declared.place.Lval.{Lval}
use Rattle.fr_terms.specs.Terms.{Text, Spot}
use Rattle.fr_typing.specs.Kinds.{Owned, unit, int, box, mutex, task, Kind, own, shared, mutable, Piece, whole}
use Rattle.fr_typing.specs.Places.{Env, Found, found, type_at, kind_shape, piece_shape, shape_at, equal_shapes, on_path, is_mutable, put_at}

-- the place that a written place names, where its name is that of this slot
abbrev pub place_of : Spot → ℕ → Lval
place_of w s = record { slot = s; depth = w.stars }

abbrev pub is_int : Kind → Bool
is_int (own int) = true
is_int _ = false

abbrev pub is_unit : Kind → Bool
is_unit (own unit) = true
is_unit _ = false

-- what a mutex holds, and what a task gives
abbrev pub mutex_of : Kind → Option Owned
mutex_of (own (mutex o)) = Some o
mutex_of _ = None

abbrev pub task_of : Kind → Option Owned
task_of (own (task o)) = Some o
task_of _ = None

abbrev pub is_owned : Kind → Bool
is_owned (own o) = true
is_owned _ = false

-- unit and int have one level, each other type one more than what it holds
abbrev pub owned_levels : Owned → ℕ
owned_levels unit = 1
owned_levels int = 1
owned_levels (box o) = suc (owned_levels o)
owned_levels (mutex o) = suc (owned_levels o)
owned_levels (task o) = suc (owned_levels o)

-- an owned type has at most 64 levels, so one of 64 can't be held by another
abbrev pub is_full : Owned → Bool
is_full o = nat_le 64 (owned_levels o)

-- a reference or a view, to be written under a star
abbrev pub is_kept_out : Kind → ℕ → Bool
is_kept_out k stars = not (is_owned k) && nat_lt 0 stars

-- a type has the shape of the part that it is to stand at
abbrev pub has_shape_of : Env → Piece → Kind → Bool
has_shape_of e p k = equal_shapes (piece_shape (shape_at e) p) (kind_shape (shape_at e) k)

-- the type names this slot or a later one
abbrev pub names_from : ℕ → Kind → Bool
names_from n (shared us) = list_any (λ u. nat_le n u.slot) us
names_from n (mutable us) = list_any (λ u. nat_le n u.slot) us
names_from n _ = false

-- the first n slots
abbrev pub keep : ℕ → Env → Env
keep n e = drop (length e - n) e

-- what was written stands at the place, unless a mutable reference leads there
abbrev pub set_through : Env → Lval → Kind → Env
set_through e w k = if on_path is_mutable e w.slot w.depth then e else put_at e w (whole k)

-- the two slots of a lock: one without a name, which refers to the mutex, and one for the content
abbrev pub with_lock : Env → Lval → Text → Owned → Env
with_lock e x name o = record { name = Some name; part = whole (own o) } ∷ record { name = None; part = whole (shared (x ∷ [])) } ∷ e

abbrev pub is_whole : Found → Bool
is_whole (found (whole k)) = true
is_whole f = false

-- the content of a lock, which stands above its hidden slot and `base` others, is whole
abbrev pub has_content : ℕ → Env → Bool
has_content base e = is_whole (type_at e (record { slot = suc base; depth = 0 }))
