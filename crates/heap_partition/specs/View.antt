-- What contracts see of `Cells`: what stands there, and beside it the room.
use Rattle.std.specs.Prelude.{ℕ, List, Option}
use Rattle.heap_partition.specs.declared.value.Cell.{Cell}

pub record CellsView : Type 0 where
  -- the cell or nothing at each address that was ever used
  pub state : List (Option Cell)
  -- how many more addresses fit without memory
  pub room : ℕ
