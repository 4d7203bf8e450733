-- A cluster to which the laws of places apply: main stands at an assignment through its box.
use Rattle.std.specs.Prelude.{◌≡◌, pos, false, Some}
use Rattle.coherent_types.specs.Below.fr_base.declared.instruction.Operand.TheVariants as operand
use Rattle.coherent_types.specs.Below.fr_base.declared.instruction.Instr.TheVariants as instr
use Rattle.coherent_types.specs.Below.sample_clusters.Clusters.{place, object}
use Rattle.coherent_types.specs.Below.coherent_memory.Things.{at_slot}
use Rattle.coherent_types.specs.Below.coherent_memory.Follow.{Standing}
use Rattle.coherent_types.specs.Below.coherent_memory.Sight.{sight}
use Rattle.coherent_types.specs.Below.coherent_memory.Walking.{instr_of}
use Rattle.coherent_types.specs.Typed.{boxed_main, boxed_cluster}
use Rattle.law_words_paths.specs.paths.HeapStore.{GoesOn, HasPaths}
use Rattle.law_words_paths.specs.paths.Pointing.{WritesTo, LastHop}

abbrev pub main_stands : Standing
main_stands = record { server = 0; packed = false; thread = boxed_main }

-- what each law of places asks of the cluster, of the thread, of its instruction and of the place
pub record PlacesApply : Type 0 where
  pub paths : HasPaths boxed_cluster
  pub goes : GoesOn boxed_cluster main_stands
  pub at : instr_of (sight boxed_cluster) main_stands ≡ Some (instr.Assign (place 0 1) (operand.Const (pos 2)))
  pub writes : WritesTo (instr.Assign (place 0 1) (operand.Const (pos 2))) (place 0 1)
  pub hop : LastHop (sight boxed_cluster).ground 0 (place 0 1) (at_slot 0 0) (object 0)
