use Rattle.std.proofs.Common.{Some, arith}
use Rattle.heap_partition.proofs.ChunkLemmas.{chunk_within, place_within, write_at, packed_write}
use Rattle.heap_partition.proofs.cells.set_slot.Goals as goal

pub index_mut-requires : goal.index_mut-requires
index_mut-requires c = omega (arith, chunk_within c.args.chunks.now.items c.args.at c.requires.packed c.requires.used, c.args.chunks.now.ok.0)

pub set-requires : goal.set-requires
set-requires c = place_within c.args.chunks.now.items c.args.at c.index_mut.result.now c.requires.packed c.requires.used c.index_mut.ensures.value

pub returns-clause-packed : goal.returns-clause-packed
returns-clause-packed c =
    rw c.set.ensures (packed_write c.args.chunks.now.items c.args.at c.index_mut.result.now (Some c.args.cell) c.requires.packed c.requires.used c.index_mut.ensures.value)

pub returns-clause-slots : goal.returns-clause-slots
returns-clause-slots c =
    rw c.set.ensures (write_at c.args.chunks.now.items c.args.at c.index_mut.result.now (Some c.args.cell) c.requires.packed c.requires.used c.index_mut.ensures.value)
