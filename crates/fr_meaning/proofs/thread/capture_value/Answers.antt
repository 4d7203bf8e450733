use Rattle.std.proofs.Common.{Some, sym, ap, ◌∙◌, arith}
use Rattle.fr_plain.specs.State.{gone}
use Rattle.fr_plain.specs.Threads.{left_after}
use Rattle.fr_acts.specs.SlotOrder.{newest_first}
use Rattle.fr_acts.proofs.SlotLemmas.{slot_stands, slot_newest, with_newest}
use Rattle.fr_meaning.proofs.thread.capture_value.Goals as goal

pub index-value-requires : goal.index-value-requires
index-value-requires c = omega (arith, slot_stands c.args.slots.now.items c.args.capture.slot c.requires.goes, c.args.slots.now.ok)

pub index_mut-requires : goal.index_mut-requires
index_mut-requires c = omega (arith, slot_stands c.args.slots.now.items c.args.capture.slot c.requires.goes, c.args.slots.now.ok)

pub returns-then-capture-clause-value : goal.returns-then-capture-clause-value
returns-then-capture-clause-value c =
    slot_newest c.args.slots.now.items c.args.capture.slot c.index-value.result.now (slot_stands c.args.slots.now.items c.args.capture.slot c.requires.goes) ∙ ap (λ v. Some v) (sym c.index-value.ensures)

pub returns-else-capture-clause-value : goal.returns-else-capture-clause-value
returns-else-capture-clause-value c =
    slot_newest c.args.slots.now.items c.args.capture.slot c.index-value.result.now (slot_stands c.args.slots.now.items c.args.capture.slot c.requires.goes) ∙ ap (λ v. Some v) (sym c.index-value.ensures)

pub returns-then-capture-clause-left : goal.returns-then-capture-clause-left
returns-then-capture-clause-left c =
    let vs = c.args.slots.now.items in
    sym (ap (λ b. left_after b (newest_first vs) c.args.capture.slot) c.if-capture.true ∙ with_newest vs c.args.capture.slot gone (slot_stands vs c.args.capture.slot c.requires.goes))
