use Rattle.std.proofs.Common.{None, sym, ◌∙◌, arith}
use Rattle.heap_partition.proofs.ChunkLemmas.{chunk_within, place_within, read_at, write_at, packed_write}
use Rattle.heap_partition.proofs.cells.take_slot.Goals as goal

pub index_mut-requires : goal.index_mut-requires
index_mut-requires c = omega (arith, chunk_within c.args.chunks.now.items c.args.at c.requires.packed c.requires.used, c.args.chunks.now.ok.0)

pub take-requires : goal.take-requires
take-requires c = place_within c.args.chunks.now.items c.args.at c.index_mut.result.now c.requires.packed c.requires.used c.index_mut.ensures.value

pub returns-clause-packed : goal.returns-clause-packed
returns-clause-packed c =
    rw c.take.ensures.left (packed_write c.args.chunks.now.items c.args.at c.index_mut.result.now None c.requires.packed c.requires.used c.index_mut.ensures.value)

pub returns-clause-taken : goal.returns-clause-taken
returns-clause-taken c =
    c.take.ensures.taken ∙ sym (read_at c.args.chunks.now.items c.args.at c.index_mut.result.now None c.requires.packed c.requires.used c.index_mut.ensures.value)

pub returns-clause-slots : goal.returns-clause-slots
returns-clause-slots c =
    rw c.take.ensures.left (write_at c.args.chunks.now.items c.args.at c.index_mut.result.now None c.requires.packed c.requires.used c.index_mut.ensures.value)
