-- What all threads have in common, without what room there is.
use Rattle.std.specs.Prelude.{List}
use Rattle.fr_plain.specs.Heap.{Heap}
use Rattle.fr_plain.specs.MachineThreads.{Mutex, Pair}
use Rattle.fr_meaning.specs.declared.common.Common.{Common}

pub record Beside : Type 0 where
  pub heap : Heap
  pub mutexes : List Mutex
  pub pairs : List Pair

abbrev pub beside_of : Common → Beside
beside_of c = record { heap = c.heap.heap; mutexes = c.mutexes.mutexes; pairs = c.pairs.pairs }
