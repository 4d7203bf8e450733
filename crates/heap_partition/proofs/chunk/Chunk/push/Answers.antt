use Rattle.std.proofs.Common.{◌≡◌, ◌<◌, ◌++◌, ◌∷◌, [], ◌∙◌, ap, length, set, true, arith}
use Rattle.heap_partition.specs.Chunks.{slots}
use Rattle.heap_partition.proofs.SlotLemmas.{slots_over, slot_pushed}
use Rattle.heap_partition.proofs.chunk.Chunk.push.Goals as goal

pub put-requires : goal.put-requires
put-requires c =
    let room : length (slots c.self.inside.live c.self.inside.cells.items) < 1024 = (rw (← c.self.view_is) at c.requires) in
    omega (arith, slots_over c.self.inside.live c.self.inside.cells.items (omega (arith, room, c.self.invariant.0)), c.len.ensures, c.self.inside.cells.ok.0)

pub push_reserved-requires : goal.push_reserved-requires
push_reserved-requires c =
    let room : length (slots c.self.inside.live c.self.inside.cells.items) < 1024 = (rw (← c.self.view_is) at c.requires) in
    omega (arith, slots_over c.self.inside.live c.self.inside.cells.items (omega (arith, room, c.self.invariant.0)), c.self.invariant, c.self.inside.cells.ok.0)

pub returns : goal.returns
returns c =
    let bits = c.self.inside.live in
    let cells = c.self.inside.cells.items in
    let room : length (slots bits cells) < 1024 = (rw (← c.self.view_is) at c.requires) in
    let at : c.len.result ≡ length cells = omega (arith, c.len.ensures, c.self.inside.cells.ok.0) in
    rw (← c.self.view_is)
    (ap (λ z. slots c.put.new.self z) c.push_reserved.ensures.items
    ∙ ap (λ b. slots b (cells ++ c.args.cell ∷ [])) (c.put.ensures ∙ ap (λ n. set bits n true) at)
    ∙ slot_pushed bits cells c.args.cell (slots_over bits cells (omega (arith, room, c.self.invariant.0))))
