-- A set of keys beside a map: those whose items pass a test (this project's own).
use Rattle.std.specs.Prelude.{◌≡◌, ℕ, ◌^◌, Bool, true, if◌then◌else◌, List, [], ◌∷◌, Option, Some, None}
use Rattle.rank_map.specs.Places.{Place, has_place, entries, Rises}

abbrev pub mark_if : Bool → Option (Unit {0})
mark_if b = if b then Some tt else None

-- an item that passes is marked
abbrev pub mark_of : {T : Type 0} → (T → Bool) → Option T → Option (Unit {0})
mark_of f None = None
mark_of f (Some x) = mark_if (f x)

-- the same places, with a mark for each item that passes
abbrev pub marked : {T : Type 0} → (T → Bool) → List (Place T) → List (Place (Unit {0}))
marked f [] = []
marked f (p ∷ ps) = record { key = p.key; item = mark_of f p.item } ∷ marked f ps

-- the set has the keys whose items pass, and a place for each place of the map
pub record IsMarked {T : Type 0} (f : T → Bool) (all : List (Place T)) (set : List (Place (Unit {0}))) : Type 0 where
  pub rises : Rises 0 (2 ^ 40) set
  pub same : entries set ≡ entries (marked f all)
  pub places : (k : ℕ) → has_place all k ≡ true → has_place set k ≡ true
