-- A cluster to which the laws of writes apply: main stands at an assignment through its box.
use Rattle.std.specs.Prelude.{◌≡◌, Some}
use Rattle.law_words_kept.specs.Below.sample_clusters.Clusters.{place}
use Rattle.law_words_kept.specs.Below.coherent_memory.Things.{at_slot}
use Rattle.law_words_kept.specs.Below.coherent_memory.Follow.{locate}
use Rattle.law_words_kept.specs.Below.coherent_memory.Paths.{written_place}
use Rattle.law_words_kept.specs.Below.coherent_memory.Sight.{sight}
use Rattle.law_words_kept.specs.Below.coherent_memory.Walking.{path}
use Rattle.law_words_kept.specs.Below.coherent_memory.Coherent.{Holds, passed_in_a_walk, passed_within}
use Rattle.law_words_kept.specs.Below.coherent_types.Typed.{boxed_cluster}
use Rattle.law_words_kept.specs.Below.law_words_paths.paths.HeapStore.{GoesOn, HasPaths}
use Rattle.law_words_kept.specs.Below.law_words_paths.paths.Example.{main_stands}

pub record WritesApply : Type 0 where
  pub paths : HasPaths boxed_cluster
  pub goes : GoesOn boxed_cluster main_stands
  pub writes : written_place (path (sight boxed_cluster) main_stands) ≡ Some (place 0 1)
  pub hop : locate (sight boxed_cluster).ground 0 0 0 ≡ Some (at_slot 0 0)
  pub in_a_walk : Holds boxed_cluster passed_in_a_walk
  pub within : Holds boxed_cluster passed_within
