-- Places that are marked or free, by rows of states (this project's own).
use Rattle.std.specs.Prelude.{◌≡◌, ℕ, zero, suc, ◌^◌, ◌≤◌, List, length, map, Option, Some, None}
use Rattle.rank_map.specs.Places.{item_in, count_of, entries}
use Rattle.server_index.specs.Rows.{places_from, AreShort}
use Rattle.server_index.specs.Sums.{before, IsAbove}

-- the place that a state tells: none, a free one, or a mark
abbrev pub mark_in : ℕ → Option (Option (Unit {0}))
mark_in zero = None
mark_in (suc zero) = Some None
mark_in (suc (suc n)) = Some (Some tt)

-- one mark, or none
abbrev pub count_in : ℕ → ℕ
count_in s = count_of (item_in (mark_in s))

-- the marks of states
abbrev pub marks : List ℕ → List ℕ
marks states = map count_in states

-- the marks of a row's states are summed and counted
pub record IsRow (states sums : List ℕ) (count : ℕ) : Type 0 where
  pub short : length states ≤ 2 ^ 32
  pub above : IsAbove (marks states) sums
  pub counted : count ≡ before (marks states) (length states)

-- rows of states, all of whose marks are counted
pub record IsRanks (rows : List (List ℕ)) (total : ℕ) : Type 0 where
  pub short : AreShort rows
  pub few : length rows ≤ 2 ^ 8
  pub counted : total ≡ length (entries (places_from mark_in 0 rows))
