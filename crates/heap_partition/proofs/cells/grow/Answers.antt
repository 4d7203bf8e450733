use Rattle.std.proofs.Common.{◌∷◌, [], ◌∙◌, arith}
use Rattle.std.proofs.lemmas.List.{length-append}
use Rattle.heap_partition.proofs.ChunkLemmas.{packed_grow, slots_grow}
use Rattle.heap_partition.proofs.cells.grow.Goals as goal

pub loop-chunks-preserved : goal.loop-chunks-preserved
loop-chunks-preserved c =
    let i = c.loop-chunks.invariant in
    let cs = c.loop-chunks.chunks.items in
    rw (c.in-Ok.ensures.items, c.in_ok-chunk.ensures) (packed_grow cs i.0, slots_grow cs ∙ i.1, omega (arith, length-append cs ([] ∷ []), i.2))
