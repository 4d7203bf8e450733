use Rattle.std.proofs.Common.{◌∙◌, ap, set, arith}
use Rattle.heap_partition.specs.Chunks.{slots}
use Rattle.heap_partition.proofs.SlotLemmas.{slot_within, slot_set}
use Rattle.heap_partition.proofs.chunk.Chunk.set.Goals as goal

pub index_mut-requires : goal.index_mut-requires
index_mut-requires c = omega (arith, (slot_within c.self.inside.live c.self.inside.cells.items c.args.at (rw (← c.self.view_is) at c.requires)).1, c.self.inside.cells.ok.0)

pub put-requires : goal.put-requires
put-requires c = (slot_within c.self.inside.live c.self.inside.cells.items c.args.at (rw (← c.self.view_is) at c.requires)).0

pub returns : goal.returns
returns c =
    rw (← c.self.view_is)
    (ap (λ b. slots b (set c.self.inside.cells.items c.args.at c.args.cell)) c.put.ensures ∙ slot_set c.self.inside.live c.self.inside.cells.items c.args.at c.args.cell)
