use Rattle.std.proofs.Common.{◌<◌, get_or, sym, ap, ◌∙◌, subst, arith}
use Rattle.std.specs.Prelude.{map, slice_set}
use Rattle.fr_shared.specs.HeapRoom.{HeapRoom, heap_by}
use Rattle.fr_shared.specs.HeapInside.{HasRoom}
use Rattle.fr_shared.proofs.HeapParts.{same_cells, room_set, length_set}
use Rattle.fr_shared.proofs.heap.Heap.reserve.Goals as goal

pub returns-in_err-reserve-in-Some-clause-heap : goal.returns-in_err-reserve-in-Some-clause-heap
returns-in_err-reserve-in-Some-clause-heap c =
    let h = c.self.inside in
    let same = same_cells (λ os. os.cells) h.objects.items c.in-Some.place c.index_mut.result.now c.reserve.new.self c.index_mut.ensures.value c.reserve.ensures.cells in
    ap (heap_by h.places.numbers) same ∙ ap (λ (v : HeapRoom). v.heap) c.self.view_is

pub returns-in_ok-reserve-in-Some-clause-heap : goal.returns-in_ok-reserve-in-Some-clause-heap
returns-in_ok-reserve-in-Some-clause-heap c =
    let h = c.self.inside in
    let same = same_cells (λ os. os.cells) h.objects.items c.in-Some.place c.index_mut.result.now c.reserve.new.self c.index_mut.ensures.value c.reserve.ensures.cells in
    ap (heap_by h.places.numbers) same ∙ ap (λ (v : HeapRoom). v.heap) c.self.view_is

pub invariant_of-self-in-Some : goal.invariant_of-self-in-Some
invariant_of-self-in-Some c =
    let h = c.self.inside in
    let w = c.reserve.new.self in
    let at = c.in-Some.place in
    let within = c.in-Some.ensures.within in
    let room = c.in_ok-reserve-in-Some.ensures.room in
    let objects = slice_set h.objects.items at w in
    let own : 0 < get_or (map (λ os. os.spare) objects) at 1 = omega (arith, room, room_set (λ os. os.spare) h.objects.items at w (omega (arith, within, c.self.invariant.same))) in
    record {
      same = length_set h.objects.items at w ∙ c.self.invariant.same;
      empty = c.self.invariant.empty;
      room = subst (HasRoom _ objects) (sym c.in-Some.is ∙ c.at.ensures.place) own;
    }
