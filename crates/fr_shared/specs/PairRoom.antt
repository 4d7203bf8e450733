-- What contracts see of the pairs.
use Rattle.std.specs.Prelude.{ℕ, List}
use Rattle.fr_plain.specs.MachineThreads.{Pair}

pub record PairRoom : Type 0 where
  pub pairs : List Pair
  -- how many more fit without memory
  pub spare : ℕ
