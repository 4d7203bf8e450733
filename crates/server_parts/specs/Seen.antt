-- Sets of numbers as they are seen: without the one that left last, which may still stand in the maps (this project's own).
use Rattle.std.specs.Prelude.{if◌then◌else◌, ◌≡◌, ◌⊎◌, ℕ, ◌<◌, ◌^◌, ⊤, Bool, true, false, List, Option, Some, None}
use Rattle.rank_map.specs.Places.{Place, place_at, item_at, with_place, with_free, Rises}
use Rattle.rank_map.specs.Marks.{mark_if}
use Rattle.server_parts.specs.declared.kind.Kind.{Kind}
use Rattle.server_parts.specs.declared.kind.Kind.TheVariants as kind

-- the sets in which a thread of some kind stands
abbrev pub in_runnable : Kind → Bool
in_runnable kind.Steps = true
in_runnable kind.Moves = true
in_runnable k = false

abbrev pub in_waiting : Kind → Bool
in_waiting kind.Waits = true
in_waiting k = false

abbrev pub in_movable : Kind → Bool
in_movable kind.Moves = true
in_movable k = false

-- the three sets
pub record SetsView : Type 0 where
  pub runnable : List (Place (Unit {0}))
  pub waiting : List (Place (Unit {0}))
  pub movable : List (Place (Unit {0}))

abbrev pub seen : List (Place (Unit {0})) → Option ℕ → List (Place (Unit {0}))
seen ps None = ps
seen ps (Some k) = with_place ps k (Some None)

-- the one that left stands in the map
abbrev pub HasLeft : List (Place (Unit {0})) → Option ℕ → Type 0
HasLeft ps None = ⊤
HasLeft ps (Some k) = (k < 2 ^ 40) × (item_at ps k ≡ Some tt)

-- the places rise, and the one that left stands there
abbrev pub IsSet : List (Place (Unit {0})) → Option ℕ → Type 0
IsSet ps left = Rises 0 (2 ^ 40) ps × HasLeft ps left

-- a number that left, if it had a mark
abbrev pub left_if : Bool → ℕ → Option ℕ
left_if had k = if had then Some k else None

-- the number that left, if it had the mark that a test tells
abbrev pub left_of : (Kind → Bool) → Option (ℕ × Kind) → Option ℕ
left_of has None = None
left_of has (Some x) = left_if (has x.1) x.0

-- the sets, and which number left with which marks
pub record AreSets (runnable waiting movable : List (Place (Unit {0}))) (left : Option (ℕ × Kind)) : Type 0 where
  pub runnable_set : IsSet runnable (left_of in_runnable left)
  pub waiting_set : IsSet waiting (left_of in_waiting left)
  pub movable_set : IsSet movable (left_of in_movable left)

-- the places rise, and that of a number is marked or not
abbrev pub StandsAs : List (Place (Unit {0})) → ℕ → Bool → Type 0
StandsAs ps k marked = Rises 0 (2 ^ 40) ps × (place_at ps k ≡ Some (mark_if marked))

-- the marks of a number with a place
pub record HasMarks (v : SetsView) (k : ℕ) (has : Kind) : Type 0 where
  pub runnable : place_at v.runnable k ≡ Some (mark_if (in_runnable has))
  pub waiting : place_at v.waiting k ≡ Some (mark_if (in_waiting has))
  pub movable : place_at v.movable k ≡ Some (mark_if (in_movable has))

-- the sets where a number has other marks
abbrev pub with_marks : SetsView → ℕ → Kind → SetsView
with_marks v k has = record {
  runnable = with_place v.runnable k (Some (mark_if (in_runnable has)));
  waiting = with_place v.waiting k (Some (mark_if (in_waiting has)));
  movable = with_place v.movable k (Some (mark_if (in_movable has)));
}

-- as it was, or with a free place for a number
abbrev pub IsFreed : List (Place (Unit {0})) → List (Place (Unit {0})) → ℕ → Type 0
IsFreed old new k = (new ≡ old) ⊎ (new ≡ with_free old k)
