-- Addresses and what lies there: the cell or nothing at each address that was ever used.
use Rattle.std.specs.Prelude.{◌≡◌, ℕ, length, List, Option, None, IsSome, slice_index_or}
use Rattle.heap_partition.specs.declared.value.Cell.{Cell}

-- the least address never used
abbrev pub next_of : List (Option Cell) → ℕ
next_of slots = length slots

abbrev pub cell_at : List (Option Cell) → ℕ → Option Cell
cell_at slots address = slice_index_or slots address None

abbrev pub IsLive : List (Option Cell) → ℕ → Type 0
IsLive slots address = IsSome (cell_at slots address)

abbrev pub IsVacant : List (Option Cell) → ℕ → Type 0
IsVacant slots address = cell_at slots address ≡ None
