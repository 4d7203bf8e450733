-- Clusters that are coherent in all parts.
use Rattle.coherent_memory.specs.Below.server_model.Servers.{start_of}
use Rattle.sample_clusters.specs.Clusters.{boxed_code, options}
use Rattle.coherent_types.specs.ClusterTypes.{IsCoherent}
use Rattle.coherent_types.specs.Typed.{boxed_cluster}
use Rattle.coherent_types.specs.Paired.{paired_cluster}
use Rattle.coherent_types.specs.Locking.{locking_cluster}

pub record CoherentCompute : Type 0 where
  pub starts : IsCoherent (start_of boxed_code (options 1))
  -- main at an assignment through a box
  pub boxed : IsCoherent boxed_cluster
  -- a parent that waits, with both its branches
  pub paired : IsCoherent paired_cluster
  -- a thread that holds a mutex
  pub locked : IsCoherent locking_cluster
