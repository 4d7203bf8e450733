use Rattle.std.proofs.Common.{Some}
use Rattle.heap_partition.proofs.ChunkLemmas.{next_within, push_at, packed_push}
use Rattle.heap_partition.proofs.cells.push_slot.Goals as goal

pub push-requires : goal.push-requires
push-requires c = next_within c.args.chunks.now.items c.args.at c.index_mut.result.now c.requires.packed c.requires.next c.requires.room c.index_mut.ensures.value

pub returns-clause-packed : goal.returns-clause-packed
returns-clause-packed c =
    rw c.push.ensures
    (packed_push c.args.chunks.now.items c.args.at c.index_mut.result.now (Some c.args.cell) c.requires.packed c.requires.next c.requires.room c.index_mut.ensures.value)

pub returns-clause-slots : goal.returns-clause-slots
returns-clause-slots c =
    rw c.push.ensures
    (push_at c.args.chunks.now.items c.args.at c.index_mut.result.now (Some c.args.cell) c.requires.packed c.requires.next c.requires.room c.index_mut.ensures.value)
