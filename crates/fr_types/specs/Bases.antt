-- Where places really are (this project's rule): a place under a star through a whole reference to one place is that place
-- under the stars that are left.
use Rattle.std.specs.Prelude.{◌≡◌, ℕ, zero, suc, ◌+◌, ◌*◌, ◌<◌, ◌≤◌, ◌==◌, ⊤, false, List, [], ◌∷◌, length, slice_index_or, Option, Some, None, if◌then◌else◌}
use Rattle.fr_base.specs.declared.place.Lval.{Lval}
use Rattle.fr_typing.specs.Kinds.{shared, mutable, Piece, whole}
use Rattle.fr_typing.specs.Places.{blocks_write}
use Rattle.fr_types.specs.declared.resolved.Starred.{Starred}
use Rattle.fr_types.specs.States.{Held, part_in, AreNested}

-- a place, as a slot under any number of stars
abbrev pub starred : Lval → Starred
starred w = record { slot = w.slot; stars = w.depth }

-- with so many stars more
abbrev pub under : Starred → ℕ → Starred
under u n = record { slot = u.slot; stars = u.stars + n }

-- the place of a set of one
abbrev pub single : List Lval → Option Starred
single (u ∷ []) = Some (starred u)
single _ = None

-- the place that a whole reference to one place names
abbrev pub target : Piece → Option Starred
target (whole (shared us)) = single us
target (whole (mutable us)) = single us
target _ = None

abbrev pub from : (Starred → Starred) → Option Starred → ℕ → ℕ → Starred
from look (Some u) slot (suc n) = look (under u n)
from look (Some u) slot zero = record { slot = slot; stars = 0 }
from look None slot n = record { slot = slot; stars = n }

-- where a place really is: no star is left, or its slot has no whole reference to one place
abbrev pub base : List Held → Starred → Starred
base [] w = w
base (s ∷ below) w = if w.slot == length below then from (base below) (target s.part) w.slot w.stars else base below w

abbrev pub aimed : (Starred → Starred) → Option Starred → Option Starred
aimed look None = None
aimed look (Some u) = Some (look u)

-- where the part of a slot leads
abbrev pub aim : List Held → ℕ → Option Starred
aim vs x = aimed (base vs) (target (part_in vs x))

-- one star more, where it is known where the slot leads
abbrev pub one_star : Option Starred → Starred → Starred
one_star None at = under at 1
one_star (Some t) at = if at.stars == 0 then t else under at 1

-- WHAT IS KEPT

abbrev pub target_at : List (Option Starred) → ℕ → Option Starred
target_at targets x = slice_index_or targets x None

-- it leads below, and each slot on the way adds at most the stars of one place
abbrev pub IsLow : ℕ → Option Starred → Type 0
IsLow x None = ⊤
IsLow x (Some t) = (t.slot < x) × (t.stars + 255 * t.slot ≤ 255 * x)

abbrev pub AreLow : List (Option Starred) → Type 0
AreLow targets = (x : ℕ) → IsLow x (target_at targets x)

-- it is known where each slot below this one leads
pub record AreAimedBelow (n : ℕ) (vs : List Held) (targets : List (Option Starred)) : Type 0 where
  pub nested : AreNested vs
  pub there : n ≤ length vs
  pub right : (x : ℕ) → x < n → target_at targets x ≡ aim vs x

-- it is known where each slot leads
pub record AreAimed (vs : List Held) (targets : List (Option Starred)) : Type 0 where
  pub room : length vs ≤ length targets
  pub low : AreLow targets
  pub right : (x : ℕ) → target_at targets x ≡ aim vs x

-- no slot has a whole reference to a place of this one
abbrev pub IsFree : ℕ → List Held → Type 0
IsFree x [] = ⊤
IsFree x (s ∷ below) = (blocks_write x s.part ≡ false) × IsFree x below
