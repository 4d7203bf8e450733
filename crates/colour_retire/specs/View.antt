-- What contracts see of `Colours`: the free addresses and the retired ones, and beside them the room.
use Rattle.std.specs.Prelude.{ℕ, List}

pub record ColoursState : Type 0 where
  -- each free address with the colour that it has next, the last freed first
  pub free : List (ℕ × ℕ)
  -- how many addresses were retired for good
  pub retired : ℕ

pub record ColoursView : Type 0 where
  pub state : ColoursState
  -- how many more free addresses fit without memory
  pub room : ℕ
