-- What contracts see of a reader or a writer whose errors are counted (this project's rule).
use Rattle.std.specs.Prelude.{ℕ}

pub record Counted (D : Type 0) : Type 0 where
  pub device : D
  -- how many calls failed
  pub faults : ℕ
