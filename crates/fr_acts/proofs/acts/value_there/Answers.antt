use Rattle.std.proofs.Common.{Some, sym, ap, ◌∙◌}
use Rattle.fr_plain.specs.State.{value_at}
use Rattle.fr_acts.specs.declared.spot.Where.{Where}
use Rattle.fr_acts.specs.Acting.{state, spot_of}
use Rattle.fr_acts.proofs.SlotLemmas.{slot_newest, slot_none}
use Rattle.fr_acts.proofs.acts.value_there.Goals as goal

pub returns-then-at-slots : goal.returns-then-at-slots
returns-then-at-slots c =
    let v = c.index-slots-at.result in
    ap Some c.index-slots-at.is ∙ sym (slot_newest c.args.slots.now c.in-Slot.slot v c.if-at-slots.true)
    ∙ sym (ap (λ (w : Where). value_at (state c.args.thread c.args.slots.now c.args.heap.now.heap) (spot_of w)) c.in-Slot.is)

pub returns-else-at-slots : goal.returns-else-at-slots
returns-else-at-slots c =
    sym (slot_none c.args.slots.now c.in-Slot.slot c.if-at-slots.false)
    ∙ sym (ap (λ (w : Where). value_at (state c.args.thread c.args.slots.now c.args.heap.now.heap) (spot_of w)) c.in-Slot.is)
