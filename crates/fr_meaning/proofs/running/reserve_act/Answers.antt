use Rattle.std.proofs.Common.{refl, sym, ap, ◌∙◌}
use Rattle.std.specs.Prelude.{slice_set}
use Rattle.fr_meaning.specs.PoolView.{Entry}
use Rattle.fr_meaning.proofs.ParentLemmas.{parents_same}
use Rattle.fr_meaning.proofs.EntryLemmas.{entries_set, view_same, reserved}
use Rattle.fr_meaning.specs.Beside.{Beside, beside_of}
use Rattle.fr_plain.specs.Heap.{Heap}
use Rattle.fr_meaning.specs.declared.running.Running.{Running}
use Rattle.fr_meaning.proofs.running.reserve_act.Goals as goal

abbrev with_heap : Running → Heap → Beside
with_heap r h = record (beside_of r.common) { heap = h }

pub returns-in_err-reserve_slot-clause-view : goal.returns-in_err-reserve_slot-clause-view
returns-in_err-reserve_slot-clause-view c = λ fs. (
    let r = c.args.running.now in
    let y = c.reserve_slot.new.thread in
    view_same fs r.threads.items (slice_set r.threads.items c.args.turn.now.at y) (beside_of r.common) (beside_of r.common) r.output.items r.output.items (entries_set r.threads.items c.args.turn.now.at c.index_mut.result.now y c.index_mut.ensures.value c.reserve_slot.ensures.entry) refl refl)

pub returns-in_err-reserve_slot-clause-stands : goal.returns-in_err-reserve_slot-clause-stands
returns-in_err-reserve_slot-clause-stands c = λ fs s. (
    let r = c.args.running.now in
    let k = reserved fs r.threads.items c.args.turn.now.at c.index_mut.result.now c.reserve_slot.new.thread c.requires.inside c.index_mut.ensures.value c.reserve_slot.ensures.entry (c.reserve_slot.ensures.well fs) s.well in
    record { numbers = s.numbers ∙ sym k.0; well = k.1; parents = parents_same r.common.pairs.pairs r.threads.items c.args.turn.now.at c.index_mut.result.now c.reserve_slot.new.thread c.index_mut.ensures.value (ap (λ (q : Entry). q.number) c.reserve_slot.ensures.entry) (ap (λ (q : Entry). q.focus) c.reserve_slot.ensures.entry) s.parents })

pub returns-in_err-reserve-clause-view : goal.returns-in_err-reserve-clause-view
returns-in_err-reserve-clause-view c = λ fs. (
    let r = c.args.running.now in
    let y = c.reserve_slot.new.thread in
    view_same fs r.threads.items (slice_set r.threads.items c.args.turn.now.at y) (beside_of r.common) (record (beside_of r.common) { heap = c.reserve.new.self.heap }) r.output.items r.output.items (entries_set r.threads.items c.args.turn.now.at c.index_mut.result.now y c.index_mut.ensures.value c.reserve_slot.ensures.entry) (ap (λ h. with_heap r h) c.reserve.ensures.heap) refl)

pub returns-in_err-reserve-clause-stands : goal.returns-in_err-reserve-clause-stands
returns-in_err-reserve-clause-stands c = λ fs s. (
    let r = c.args.running.now in
    let k = reserved fs r.threads.items c.args.turn.now.at c.index_mut.result.now c.reserve_slot.new.thread c.requires.inside c.index_mut.ensures.value c.reserve_slot.ensures.entry (c.reserve_slot.ensures.well fs) s.well in
    record { numbers = s.numbers ∙ sym k.0; well = k.1; parents = parents_same r.common.pairs.pairs r.threads.items c.args.turn.now.at c.index_mut.result.now c.reserve_slot.new.thread c.index_mut.ensures.value (ap (λ (q : Entry). q.number) c.reserve_slot.ensures.entry) (ap (λ (q : Entry). q.focus) c.reserve_slot.ensures.entry) s.parents })

pub returns-in_err-reserve-2-clause-view : goal.returns-in_err-reserve-2-clause-view
returns-in_err-reserve-2-clause-view c = λ fs. (
    let r = c.args.running.now in
    let y = c.reserve_slot.new.thread in
    view_same fs r.threads.items (slice_set r.threads.items c.args.turn.now.at y) (beside_of r.common) (record (beside_of r.common) { heap = c.reserve.new.self.heap }) r.output.items c.reserve-2.new.self.items (entries_set r.threads.items c.args.turn.now.at c.index_mut.result.now y c.index_mut.ensures.value c.reserve_slot.ensures.entry) (ap (λ h. with_heap r h) c.reserve.ensures.heap) c.reserve-2.ensures.items)

pub returns-in_err-reserve-2-clause-stands : goal.returns-in_err-reserve-2-clause-stands
returns-in_err-reserve-2-clause-stands c = λ fs s. (
    let r = c.args.running.now in
    let k = reserved fs r.threads.items c.args.turn.now.at c.index_mut.result.now c.reserve_slot.new.thread c.requires.inside c.index_mut.ensures.value c.reserve_slot.ensures.entry (c.reserve_slot.ensures.well fs) s.well in
    record { numbers = s.numbers ∙ sym k.0; well = k.1; parents = parents_same r.common.pairs.pairs r.threads.items c.args.turn.now.at c.index_mut.result.now c.reserve_slot.new.thread c.index_mut.ensures.value (ap (λ (q : Entry). q.number) c.reserve_slot.ensures.entry) (ap (λ (q : Entry). q.focus) c.reserve_slot.ensures.entry) s.parents })

pub returns-clause-view : goal.returns-clause-view
returns-clause-view c = λ fs. (
    let r = c.args.running.now in
    let y = c.reserve_slot.new.thread in
    view_same fs r.threads.items (slice_set r.threads.items c.args.turn.now.at y) (beside_of r.common) (record (beside_of r.common) { heap = c.reserve.new.self.heap }) r.output.items c.reserve-2.new.self.items (entries_set r.threads.items c.args.turn.now.at c.index_mut.result.now y c.index_mut.ensures.value c.reserve_slot.ensures.entry) (ap (λ h. with_heap r h) c.reserve.ensures.heap) c.reserve-2.ensures.items)

pub returns-clause-stands : goal.returns-clause-stands
returns-clause-stands c = λ fs s. (
    let r = c.args.running.now in
    let k = reserved fs r.threads.items c.args.turn.now.at c.index_mut.result.now c.reserve_slot.new.thread c.requires.inside c.index_mut.ensures.value c.reserve_slot.ensures.entry (c.reserve_slot.ensures.well fs) s.well in
    record { numbers = s.numbers ∙ sym k.0; well = k.1; parents = parents_same r.common.pairs.pairs r.threads.items c.args.turn.now.at c.index_mut.result.now c.reserve_slot.new.thread c.index_mut.ensures.value (ap (λ (q : Entry). q.number) c.reserve_slot.ensures.entry) (ap (λ (q : Entry). q.focus) c.reserve_slot.ensures.entry) s.parents })
