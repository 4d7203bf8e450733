-- What contracts see of sources and sinks in memory (this project's rules).
use Rattle.std.specs.Prelude.{ℕ, List}

-- a device in memory, some of whose calls fail by plan
pub record Device : Type 0 where
  -- what is left to read, or what was written
  pub bytes : List ℕ
  -- the most bytes that one call takes
  pub most : ℕ
  -- the numbers of the calls that fail, from 1
  pub failing : List ℕ
  -- how many calls there were, and how many of them failed
  pub calls : ℕ
  pub faults : ℕ

-- a source in memory that never fails
pub record Steady : Type 0 where
  -- what is left to read
  pub bytes : List ℕ
  -- the most bytes that one call takes
  pub most : ℕ
