-- The fields of a thread's objects.
use Rattle.std.specs.Prelude.{ℕ, zero, suc, ◌-◌, ◌^◌, min, nat_eq, List, [], ◌∷◌, Option}
use Rattle.indexmap.specs.IndexMap.{get, spare}
use Rattle.fr_base.specs.declared.label.Plain.{Plain}
use Rattle.fr_shared.specs.declared.objects.Objects.TheInside.{Inside}
use Rattle.fr_shared.specs.ObjectRoom.{ObjectRoom}

-- so many cells from this count on, by what lives
abbrev pub cells_from : (ℕ → Option Plain) → ℕ → ℕ → List (Option Plain)
cells_from living k zero = []
cells_from living k (suc n) = living k ∷ cells_from living (suc k) n

-- what lives at a count
abbrev pub living_at : Inside → ℕ → Option Plain
living_at o k = get nat_eq o.living k

abbrev pub objects_view : Inside → ObjectRoom
objects_view o = record { cells = cells_from (living_at o) 0 o.made; spare = min (spare o.living) (2 ^ 64 - 1 - o.made) }
