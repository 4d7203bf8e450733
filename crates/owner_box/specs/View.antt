-- What contracts see of a partition: its state, and beside it the room.
use Rattle.std.specs.Prelude.{ℕ, List, Option}
use Rattle.heap_partition.specs.declared.value.Cell.{Cell}

pub record PartitionState : Type 0 where
  pub server : ℕ
  -- colours are below it
  pub limit : ℕ
  -- the cell or nothing at each address that was ever used
  pub cells : List (Option Cell)
  -- each free address with the colour that it has next, the last freed first
  pub free : List (ℕ × ℕ)
  -- how many addresses were retired for good
  pub retired : ℕ

pub record PartitionView : Type 0 where
  pub state : PartitionState
  -- how many objects can be made or renewed without memory
  pub room : ℕ
