-- Laws of clusters with the same things.
use Rattle.law_entries_events.specs.Below.law_entries_variables.Below.server_model.Servers.{Cluster}
use Rattle.law_entries_events.specs.Below.coloured_heap.Heap.{Coloured}
use Rattle.law_entries_events.specs.Below.law_entries_variables.Below.coherent_memory.Colours.{StandsColoured}
use Rattle.law_entries_events.specs.Below.law_entries_variables.Below.coherent_memory.Coherent.{IsSound}
use Rattle.law_runs_order.specs.things.SameThings.{HasSameThings}

-- they stand for the same coloured heaps
abbrev pub ColouredWithSameThings : Type 0
ColouredWithSameThings = (k z : Cluster) → HasSameThings k z → IsSound z → (c : Coloured) → StandsColoured z c → StandsColoured k c
