use Rattle.std.proofs.Common.{None, sym, ◌∙◌, arith}
use Rattle.heap_partition.proofs.ChunkLemmas.{chunk_within, place_within, read_at}
use Rattle.heap_partition.proofs.cells.slot_at.Goals as goal

pub index-requires : goal.index-requires
index-requires c = omega (arith, chunk_within c.args.chunks.now.items c.args.at c.requires.packed c.requires.used, c.args.chunks.now.ok.0)

pub get-requires : goal.get-requires
get-requires c = place_within c.args.chunks.now.items c.args.at c.index.result.now c.requires.packed c.requires.used c.index.ensures

pub returns : goal.returns
returns c = c.get.ensures ∙ sym (read_at c.args.chunks.now.items c.args.at c.index.result.now None c.requires.packed c.requires.used c.index.ensures)
