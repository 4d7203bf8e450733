use Rattle.std.proofs.Common.{arith}
use Rattle.heap_partition.proofs.BitLemmas.{mask_within, bit_set}
use Rattle.heap_partition.proofs.live.Live.put.Goals as goal

pub bounds-self-inside-at : goal.bounds-self-inside-at
bounds-self-inside-at c = omega (arith, mask_within c.self.inside.masks c.args.at (rw (← c.self.view_is) at c.requires), c.self.told)

pub bounds-self-inside-at-2 : goal.bounds-self-inside-at-2
bounds-self-inside-at-2 c = omega (arith, mask_within c.self.inside.masks c.args.at (rw (← c.self.view_is) at c.requires), c.self.told)

pub returns : goal.returns
returns c = rw (← c.self.view_is) (bit_set c.self.inside.masks c.args.at (rw (← c.self.view_is) at c.requires))
