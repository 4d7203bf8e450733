use Rattle.std.proofs.Common.{sym, ap, ◌∙◌}
use Rattle.std.specs.Prelude.{slice_get}
use Rattle.fr_plain.specs.Heap.{flat, cell_at}
use Rattle.fr_shared.specs.HeapRoom.{HeapRoom}
use Rattle.fr_shared.specs.HeapInside.{cells_of}
use Rattle.fr_shared.proofs.HeapParts.{made_there, cell_nowhere}
use Rattle.fr_shared.proofs.heap.Heap.get.Goals as goal

pub returns-in-Some : goal.returns-in-Some
returns-in-Some c =
    let h = c.self.inside in
    let o = c.args.object.now in
    let some = sym c.at.ensures.place ∙ c.in-Some.is in
    let made = made_there (λ os. os.cells) h.places.numbers h.objects.items o.thread c.in-Some.place c.index.result.now some c.self.invariant.same c.in-Some.ensures.within c.index.ensures in
    c.get.ensures ∙ ap (λ xs. flat (slice_get xs o.count)) (sym made) ∙ ap (λ (v : HeapRoom). cell_at v.heap o) c.self.view_is

pub returns-in-None : goal.returns-in-None
returns-in-None c =
    let none = sym c.at.ensures.place ∙ c.in-None.is in
    sym (cell_nowhere c.self.inside.places.numbers (cells_of c.self.inside) c.args.object.now none) ∙ ap (λ (v : HeapRoom). cell_at v.heap c.args.object.now) c.self.view_is
