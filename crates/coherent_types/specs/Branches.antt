-- What the types of a cluster say of the branches of pairs (this project's rules): the typed one heap says it of parents that wait, and homes note
-- these branches alone.
use Rattle.std.specs.Prelude.{◌≡◌, ℕ, ◌<◌, Bool, Some}
use Rattle.coherent_memory.specs.Below.fr_typing.Kinds.{unit}
use Rattle.coherent_memory.specs.Below.join_home.Tasks.{Task, in_pair}
use Rattle.coherent_memory.specs.Below.server_model.Servers.{Cluster}
use Rattle.coherent_memory.specs.Names.{Among}
use Rattle.coherent_memory.specs.Things.{noted, things_of}
use Rattle.coherent_memory.specs.Follow.{Standing}
use Rattle.coherent_memory.specs.Sight.{sight}
use Rattle.coherent_memory.specs.OneHeap.{two_in}
use Rattle.coherent_memory.specs.Below.fr_sound.States.{Typing}
use Rattle.coherent_types.specs.ClusterTypes.{IsCoherent}

-- the thread ends with unit, and its parent stands below it
pub record IsBranchOf (y : Typing) (parent t : ℕ) : Type 0 where
  pub gives : y.gives.result t ≡ unit
  pub below : y.order parent < y.order t

pub record BranchesLaw : Type 0 where
  -- of a parent that waits for two threads or has been answered by both
  pub waited : (k : Cluster) (c : IsCoherent k) (x : Standing) (a b : ℕ) → Among x (sight k).ground.threads → two_in x.thread.phase ≡ Some (a, b) → IsBranchOf c.types.typing x.thread.number a × IsBranchOf c.types.typing x.thread.number b
  -- of a thread that is noted in the pair of a parent
  pub noted : (k : Cluster) (c : IsCoherent k) (r parent : ℕ) (t : Task) (over : Bool) → Among (noted r t) (things_of k) → t.state ≡ in_pair parent over → IsBranchOf c.types.typing parent t.thread
