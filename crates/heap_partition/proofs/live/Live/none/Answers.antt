use Rattle.heap_partition.proofs.BitLemmas.{no_bit}
use Rattle.heap_partition.proofs.live.Live.none.Goals as goal

pub returns : goal.returns
returns c = no_bit
