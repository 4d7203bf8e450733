-- What contracts see of `Mutexes`.
use Rattle.std.specs.Prelude.{ℕ}
use Rattle.mutex_home.specs.Mutexes.{Mutexes}

-- how much can come without memory
pub record Room : Type 0 where
  -- more mutexes
  pub mutexes : ℕ
  -- more threads that ask
  pub threads : ℕ

pub record MutexesView : Type 0 where
  pub state : Mutexes
  pub room : Room
