use Rattle.std.proofs.Common.{◌∙◌, ap}
use Rattle.heap_partition.specs.Chunks.{slots}
use Rattle.heap_partition.proofs.SlotLemmas.{slot_within, slot_cleared}
use Rattle.heap_partition.proofs.chunk.Chunk.take.Goals as goal

pub clear-requires : goal.clear-requires
clear-requires c = (slot_within c.self.inside.live c.self.inside.cells.items c.args.at (rw (← c.self.view_is) at c.requires)).0

pub returns-clause-left : goal.returns-clause-left
returns-clause-left c =
    rw (← c.self.view_is)
    (ap (λ b. slots b c.self.inside.cells.items) c.clear.ensures ∙ slot_cleared c.self.inside.live c.self.inside.cells.items c.args.at)
