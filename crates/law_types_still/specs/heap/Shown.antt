-- THE ONE HEAP AS A STATE OF THE PLAIN MACHINE (this project's rule).
use Rattle.law_heap_still.specs.Below.fr_plain.PlainState.{SameState, plain_state}
use Rattle.law_heap_still.specs.Below.fr_code.Machine.{CodeWhole}
use Rattle.law_heap_still.specs.Below.server_model.Servers.{Cluster}
use Rattle.law_heap_still.specs.Below.coherent_memory.Coherent.{IsSound}
use Rattle.law_heap_still.specs.Below.coherent_memory.OneHeap.{one_heap}

-- a state of the plain machine shows the cluster's one heap
pub record IsShown (k : Cluster) : Type 0 where
  pub whole : CodeWhole
  pub shows : SameState (plain_state whole) (one_heap k)

-- such a state is there for each sound cluster
abbrev pub HeapsAreWhole : Type 0
HeapsAreWhole = (k : Cluster) → IsSound k → IsShown k
