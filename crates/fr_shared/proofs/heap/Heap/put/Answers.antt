use Rattle.std.proofs.Common.{Option, sym, ap, ◌∙◌, subst}
use Rattle.std.specs.Prelude.{slice_get, slice_set, IsSome}
use Rattle.fr_base.specs.declared.label.Plain.{Plain}
use Rattle.fr_plain.specs.Heap.{flat, cell_at, with_cell}
use Rattle.fr_shared.specs.HeapRoom.{HeapRoom}
use Rattle.fr_shared.specs.HeapInside.{cells_of}
use Rattle.fr_shared.proofs.HeapParts.{made_there, cells_set, cell_nowhere}
use Rattle.fr_shared.proofs.heap.Heap.put.Goals as goal

pub unreachable-requires : goal.unreachable-requires
unreachable-requires c =
    let none = sym c.at.ensures.place ∙ c.in_default.is in
    let lives = subst (λ (v : HeapRoom). IsSome (cell_at v.heap c.args.object.now)) (sym c.self.view_is) c.requires.lives in
    let no = subst (λ (o : Option Plain). IsSome o) (cell_nowhere c.self.inside.places.numbers (cells_of c.self.inside) c.args.object.now none) lives in
    cc

pub set-requires : goal.set-requires
set-requires c =
    let h = c.self.inside in
    let o = c.args.object.now in
    let some = sym c.at.ensures.place ∙ c.in-Some.is in
    let made = made_there (λ os. os.cells) h.places.numbers h.objects.items o.thread c.in-Some.place c.index_mut-objects.result.now some c.self.invariant.same c.in-Some.ensures.within c.index_mut-objects.ensures.value in
    let lives = subst (λ (v : HeapRoom). IsSome (cell_at v.heap o)) (sym c.self.view_is) c.requires.lives in
    record { lives = subst (λ xs. IsSome (flat (slice_get xs o.count))) made lives }

pub returns : goal.returns
returns c =
    let h = c.self.inside in
    let o = c.args.object.now in
    let v = c.index_mut-objects.result.now in
    let some = sym c.at.ensures.place ∙ c.in-Some.is in
    let made = made_there (λ os. os.cells) h.places.numbers h.objects.items o.thread c.in-Some.place v some c.self.invariant.same c.in-Some.ensures.within c.index_mut-objects.ensures.value in
    sym (cells_set (λ os. os.cells) h.places.numbers h.objects.items o.thread c.in-Some.place _ _ some c.self.invariant.same c.in-Some.ensures.within (c.set.ensures ∙ ap (λ xs. slice_set xs o.count c.args.cell) (sym made)))
    ∙ ap (λ (w : HeapRoom). with_cell w.heap o c.args.cell) c.self.view_is
