use Rattle.std.proofs.Common.{ℕ, ◌++◌, ◌∷◌, [], Some, length, sym, ap, ◌∙◌}
use Rattle.std.specs.Prelude.{map}
use Rattle.fr_base.specs.declared.name.ObjNo.{ObjNo}
use Rattle.fr_plain.specs.Heap.{made_by, next_object, with_object}
use Rattle.fr_shared.specs.HeapRoom.{HeapRoom, heap_by}
use Rattle.fr_shared.specs.HeapInside.{cells_of}
use Rattle.fr_shared.proofs.HeapParts.{none_made, made_there, cells_set, cells_added}
use Rattle.fr_shared.proofs.heap.Heap.make.Goals as goal

pub returns-in_default-clause-object : goal.returns-in_default-clause-object
returns-in_default-clause-object c =
    let none = sym c.at.ensures.place ∙ c.in_default.is in
    let made = none_made c.self.inside.places.numbers (cells_of c.self.inside) c.args.thread none in
    let first = ap (λ os. os.cells) c.replace-objects.ensures.value ∙ c.self.invariant.empty in
    ap (λ (k : ℕ). (let o : ObjNo = record { thread = c.args.thread; count = k } in o)) (c.push-count.ensures.count ∙ ap length (first ∙ sym made)) ∙ ap (λ (v : HeapRoom). next_object v.heap c.args.thread) c.self.view_is

pub returns-in_default-clause-made : goal.returns-in_default-clause-made
returns-in_default-clause-made c =
    let h = c.self.inside in
    let t = c.args.thread in
    let none = sym c.at.ensures.place ∙ c.in_default.is in
    let ns = h.places.numbers in
    let made = none_made ns (cells_of h) t none in
    let first = ap (λ os. os.cells) c.replace-objects.ensures.value ∙ c.self.invariant.empty in
    let pushed = c.push-count.ensures.cells ∙ ap (λ xs. xs ++ Some c.args.value ∷ []) (first ∙ sym made) in
    ap (λ ks. heap_by ks (map (λ os. os.cells) c.push_reserved.new.self.items)) c.add.ensures.numbers
    ∙ ap (λ vs. heap_by (ns ++ t ∷ []) (map (λ os. os.cells) vs)) c.push_reserved.ensures.items
    ∙ sym (cells_added (λ os. os.cells) ns h.objects.items t c.push-count.new.self (made_by (heap_by ns (cells_of h)) t ++ Some c.args.value ∷ []) none c.self.invariant.same pushed)
    ∙ ap (λ (w : HeapRoom). with_object w.heap t c.args.value) c.self.view_is

pub returns-clause-object : goal.returns-clause-object
returns-clause-object c =
    let h = c.self.inside in
    let t = c.args.thread in
    let some = sym c.at.ensures.place ∙ c.in-Some.is in
    let made = made_there (λ os. os.cells) h.places.numbers h.objects.items t c.in-Some.place c.index_mut-objects.result.now some c.self.invariant.same c.in-Some.ensures.within c.index_mut-objects.ensures.value in
    ap (λ (k : ℕ). (let o : ObjNo = record { thread = t; count = k } in o)) (c.push-count-2.ensures.count ∙ ap length (sym made)) ∙ ap (λ (w : HeapRoom). next_object w.heap t) c.self.view_is

pub returns-clause-made : goal.returns-clause-made
returns-clause-made c =
    let h = c.self.inside in
    let t = c.args.thread in
    let some = sym c.at.ensures.place ∙ c.in-Some.is in
    let made = made_there (λ os. os.cells) h.places.numbers h.objects.items t c.in-Some.place c.index_mut-objects.result.now some c.self.invariant.same c.in-Some.ensures.within c.index_mut-objects.ensures.value in
    sym (cells_set (λ os. os.cells) h.places.numbers h.objects.items t c.in-Some.place _ _ some c.self.invariant.same c.in-Some.ensures.within (c.push-count-2.ensures.cells ∙ ap (λ xs. xs ++ Some c.args.value ∷ []) (sym made)))
    ∙ ap (λ (w : HeapRoom). with_object w.heap t c.args.value) c.self.view_is
