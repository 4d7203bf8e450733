-- Counts of kinds, by the kinds' numbers.
use Rattle.std.specs.Prelude.{ℕ, ◌+◌, List, slice_index, slice_set}

-- that kind is counted once more
abbrev pub one_more : List ℕ → ℕ → List ℕ
one_more counts kind = slice_set counts kind (slice_index counts kind + 1)
