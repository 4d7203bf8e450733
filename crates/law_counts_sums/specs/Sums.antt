-- Eight parts of coherent memory that are sums over all things (in the manner of DRust, OSDI 2024; the exact sentences are this project's).
use Rattle.std.specs.Prelude.{ℕ, ◌==◌, List}
use Rattle.coherent_memory.specs.Names.{one}
use Rattle.coherent_memory.specs.Things.{Thing, counts}
use Rattle.coherent_memory.specs.Balances.{Agree, AtMost, AtMostOne}
use Rattle.coherent_memory.specs.Weights.{cells, owners, states, below, uses_of, users_of, shares_of, shares_at_home, tasks_of, is_thread}

-- the counts of the server of that number
abbrev pub is_server : ℕ → Thing → ℕ
is_server n (counts s next retired started made events) = one (s == n)
is_server n x = 0

pub record Sums (b : List Thing) : Type 0 where
  -- one home: each object is one cell
  pub home_of_each : AtMostOne cells b
  -- one owner: each object has one owner exactly where it is a cell
  pub owner_of_each : Agree owners cells b
  -- each address below its server's next one is live, free or retired, once, and no other address is anything
  pub one_state : AtMost states below b
  -- the users of a cached word are the walks and pinned references that have it
  pub users_counted : Agree uses_of users_of b
  -- a mutex's shares are counted at its home
  pub shares_counted : Agree shares_of shares_at_home b
  -- a thread is named by at most one task value or `release`
  pub one_task_value : AtMostOne tasks_of b
  -- no two threads or parcels have the same number
  pub numbers_differ : AtMostOne is_thread b
  -- no two servers have the same number
  pub servers_differ : AtMostOne is_server b
