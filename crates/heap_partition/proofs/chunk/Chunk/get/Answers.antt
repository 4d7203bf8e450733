use Rattle.std.proofs.Common.{◌∙◌, sym, arith}
use Rattle.heap_partition.proofs.SlotLemmas.{slot_within, slot_full, slot_empty}
use Rattle.heap_partition.proofs.chunk.Chunk.get.Goals as goal

pub has-requires : goal.has-requires
has-requires c = (slot_within c.self.inside.live c.self.inside.cells.items c.args.at (rw (← c.self.view_is) at c.requires)).0

pub index-requires : goal.index-requires
index-requires c = omega (arith, (slot_within c.self.inside.live c.self.inside.cells.items c.args.at (rw (← c.self.view_is) at c.requires)).1, c.self.inside.cells.ok.0)

pub returns-then-has : goal.returns-then-has
returns-then-has c =
    rw (← c.self.view_is)
    (sym (slot_full c.self.inside.live c.self.inside.cells.items c.args.at c.index.result.now (rw (← c.self.view_is) at c.requires) (sym c.has.ensures ∙ c.if-has.true) c.index.ensures))

pub returns-else-has : goal.returns-else-has
returns-else-has c = rw (← c.self.view_is) (sym (slot_empty c.self.inside.live c.self.inside.cells.items c.args.at (sym c.has.ensures ∙ c.if-has.false)))
