-- Clusters that break no sentence.
use Rattle.std.specs.Prelude.{◌≡◌, []}
use Rattle.server_model.specs.Servers.{start_of}
use Rattle.coherent_memory.specs.Coherent.{broken}
use Rattle.sample_clusters.specs.Clusters.{boxed_code, options, middle, relent}
use Rattle.sample_clusters.specs.Busy.{busy}

pub record SoundCompute : Type 0 where
  -- the start of { let mut x = box 1; *x = 2; print *x } on one server and on three
  pub starts : broken (start_of boxed_code (options 1)) ≡ []
  pub starts_three : broken (start_of boxed_code (options 3)) ≡ []
  -- in the middle of a run on two servers: a read copy, a dirty reference, a drop under way, a mutex held and asked for, a task asked for
  pub runs : broken middle ≡ []
  -- all kinds of waiting, gifts and messages beside each other: an object under way, one taken for a mutable borrow, a par, a view that is pinned, a
  -- lock granted, a dup answered, a result joined and one under way, a task let go, a thread that moves
  pub waits : broken busy ≡ []
  -- a box is stale through a reference that was made from it, however the place was written
  pub lends_again : broken relent ≡ []
