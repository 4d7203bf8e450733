-- The items of a queue, and those of places (this project's own).
use Rattle.std.specs.Prelude.{ℕ, List, map}
use Rattle.rank_map.specs.Places.{Place, entries}

pub record QueueView (T : Type 0) : Type 0 where
  pub items : List T
  -- how many more fit without memory
  pub room : ℕ

abbrev pub items_of : {T : Type 0} → List (Place T) → List T
items_of ps = map (λ e. e.item) (entries ps)
