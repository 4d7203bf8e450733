-- What contracts see of the mutexes.
use Rattle.std.specs.Prelude.{ℕ, List}
use Rattle.fr_plain.specs.MachineThreads.{Mutex}

pub record MutexRoom : Type 0 where
  pub mutexes : List Mutex
  -- how many more names fit without memory
  pub spare : ℕ
