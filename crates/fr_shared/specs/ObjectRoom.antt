-- What contracts see of a thread's objects.
use Rattle.std.specs.Prelude.{ℕ, List, Option}
use Rattle.fr_base.specs.declared.label.Plain.{Plain}

pub record ObjectRoom : Type 0 where
  -- the objects that it has made, in order; None where one was dropped
  pub cells : List (Option Plain)
  -- how many more fit without memory
  pub spare : ℕ
