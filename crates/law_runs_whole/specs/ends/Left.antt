-- WHAT IS LEFT OF A CLUSTER THAT IS FINISHED (this project's rule): nothing but copies that nobody uses, and addresses that are free or retired.
use Rattle.std.specs.Prelude.{◌≡◌, ◌==◌, ◌&&◌, Bool, true, List, [], ◌∷◌}
use Rattle.law_runs_coherent.specs.Below.fr_base.declared.step.Ending3.TheVariants.{Finished}
use Rattle.law_runs_coherent.specs.Below.read_cache.Cache.{Copy}
use Rattle.law_runs_coherent.specs.Below.server_model.Servers.{Server, Cluster}
use Rattle.law_runs_coherent.specs.Below.server_model.Figures.{are_finished}
use Rattle.drive_model.specs.Ending.{ending}
use Rattle.law_runs_coherent.specs.Below.coherent_memory.Coherent.{IsSound}

-- nobody uses one of the copies
abbrev pub unused : List Copy → Bool
unused [] = true
unused (c ∷ cs) = (c.users == 0) && unused cs

abbrev pub all_unused : List Server → Bool
all_unused [] = true
all_unused (s ∷ ss) = unused s.rest.cache && all_unused ss

pub record NothingLeft (k : Cluster) : Type 0 where
  -- all threads are over, and no object, message, mutex or result is left
  pub empty : are_finished k.servers ≡ true
  -- no copy is in use
  pub free : all_unused k.servers ≡ true

-- of a sound cluster that is finished nothing is left
abbrev pub FinishedIsEmpty : Type 0
FinishedIsEmpty = (k : Cluster) → IsSound k → ending k ≡ Finished → NothingLeft k
