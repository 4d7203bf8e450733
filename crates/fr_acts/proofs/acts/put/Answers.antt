use Rattle.std.proofs.Common.{sym, ap, ◌∙◌, subst, arith}
use Rattle.std.specs.Prelude.{IsSome}
use Rattle.fr_plain.specs.State.{value_at, with_value}
use Rattle.fr_acts.specs.declared.spot.Where.{Where}
use Rattle.fr_acts.specs.Acting.{state, spot_of}
use Rattle.fr_acts.proofs.SlotLemmas.{slot_stands, put_slot}
use Rattle.fr_acts.proofs.acts.put.Goals as goal

pub index_mut-requires : goal.index_mut-requires
index_mut-requires c =
    let vs = c.args.slots.now.items in
    let stands = slot_stands vs c.in-Slot.slot (subst (λ (w : Where). IsSome (value_at (state c.args.thread vs c.args.heap.now.heap) (spot_of w))) c.in-Slot.is c.requires.stands) in
    omega (arith, stands, c.args.slots.now.ok)

pub returns-in-Slot : goal.returns-in-Slot
returns-in-Slot c =
    let vs = c.args.slots.now.items in
    let stands = slot_stands vs c.in-Slot.slot (subst (λ (w : Where). IsSome (value_at (state c.args.thread vs c.args.heap.now.heap) (spot_of w))) c.in-Slot.is c.requires.stands) in
    sym (ap (λ (w : Where). with_value (state c.args.thread vs c.args.heap.now.heap) (spot_of w) c.args.value) c.in-Slot.is ∙ put_slot c.args.thread vs c.args.heap.now.heap c.in-Slot.slot c.args.value stands)
