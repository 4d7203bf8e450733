-- What contracts see of `Tasks`.
use Rattle.std.specs.Prelude.{ℕ, List}
use Rattle.join_home.specs.Tasks.{Task}

pub record TasksView : Type 0 where
  -- the threads, the one that began first first
  pub state : List Task
  -- how many more threads or pairs can begin without memory
  pub room : ℕ
