use Rattle.std.proofs.Common.{◌≡◌, ◌-◌, List, length, drop, refl, sym, ap, ◌∙◌, subst, arith, vec_capacity}
use Rattle.fr_plain.specs.declared.value.Value.{Value}
use Rattle.fr_plain.specs.Acts.{act, do_discard, unit}
use Rattle.fr_plain.specs.Run.{block, settle}
use Rattle.fr_meaning.specs.declared.frame.Frame.TheVariants as frame
use Rattle.fr_meaning.specs.Contexts.{fill}
use Rattle.fr_forms.specs.FormTerms.{parts_of, term_of, items_at}
use Rattle.fr_meaning.specs.DoneTerms.{over, value_of}
use Rattle.fr_meaning.specs.FrameTerms.{wrapped, around_items, focus_run, AreInside}
use Rattle.fr_acts.specs.Acting.{state, did, releases}
use Rattle.fr_forms.proofs.FormLemmas.{at_drop, all_dropped}
use Rattle.fr_meaning.proofs.FrameLemmas.{inside_push, has_place_in, room_in, room_less, rest_below, depth_left, wrap_push, not_below}
use Rattle.fr_meaning.proofs.StepLemmas.{step_in, held, opened, settled_waits, discard_turns, drop_turns}
use Rattle.fr_meaning.proofs.machine.step_block.Goals as goal

pub next_item-thread-requires-clause-room : goal.next_item-thread-requires-clause-room
next_item-thread-requires-clause-room c =
    let fs = c.args.forms.now in
    let js = drop c.args.block.next (items_at fs c.args.block.node) in
    room_less fs c.args.thread.now.frames.items c.args.thread.now.frames.items (fill (around_items c.args.block.left (term_of fs) js) (over c.args.done)) (block c.args.block.left (parts_of (term_of fs) js)) (vec_capacity c.args.thread.now.frames) (vec_capacity c.args.thread.now.frames)
    refl (rest_below c.args.block.left (term_of fs) js (over c.args.done)) c.requires.room refl

pub returns-then-has_item-clause-step : goal.returns-then-has_item-clause-step
returns-then-has_item-clause-step c =
    let fs = c.args.forms.now in
    let js = drop c.args.block.next (items_at fs c.args.block.node) in
    let d = c.args.done in
    let h = c.args.heap.now.heap in
    let new = c.discard-released.new.heap.heap in
    let ls = c.discard-released.new.labels.items in
    let more = at_drop (items_at fs c.args.block.node) c.args.block.next 0 (c.has_item.ensures.0 c.if-has_item.true) in
    let acts = subst (λ (vs : List Value). act (do_discard (value_of d)) (state c.args.thread.now.number vs h) ≡ did unit c.args.thread.now.number vs new ls) c.deref.ensures.value
    (subst (λ (v : Value). act (do_discard v) (state c.args.thread.now.number c.deref.result.now h) ≡ did unit c.args.thread.now.number c.deref.result.now new ls) c.value_in.ensures c.discard-released.ensures.act) in
    let last = c.discard-released.ensures.released ∙ ap (λ (v : Value). releases (do_discard v) (state c.args.thread.now.number c.deref.result.now h)) c.value_in.ensures ∙ ap (λ vs. releases (do_discard (value_of d)) (state c.args.thread.now.number vs h)) c.deref.ensures.value in
    step_in fs c.args.thread.now.frames.items (fill (around_items c.args.block.left (term_of fs) js) (over d)) (block c.args.block.left (parts_of (term_of fs) js)) (wrapped fs c.next_item-thread.new.frames.items (focus_run fs c.next_item-thread.result)) (state c.args.thread.now.number c.args.thread.now.slots.items h) c.args.thread.now.number c.args.thread.now.slots.items new ls c.discard-released.result
    (settled_waits fs (frame.Block c.args.block.left c.args.block.node c.args.block.next) d c.requires.settled)
    (discard_turns c.args.block.left (term_of fs) js _ _ d (state c.args.thread.now.number c.args.thread.now.slots.items h) c.args.thread.now.number c.args.thread.now.slots.items new ls c.discard-released.result more (held c.args.block.left (term_of fs) js _ _ d more c.requires.settled) acts last)
    c.next_item-thread.ensures.settles

pub overflow_sub-left : goal.overflow_sub-left
overflow_sub-left c =
    let fs = c.args.forms.now in
    let js = drop c.args.block.next (items_at fs c.args.block.node) in
    let none = all_dropped (items_at fs c.args.block.node) c.args.block.next (not_below c.has_item.result c.args.block.next _ c.has_item.ensures c.if-has_item.false) in
    let some = opened c.args.block.left (term_of fs) js c.args.done none c.requires.settled in
    omega (arith, some)

pub push_reserved-requires : goal.push_reserved-requires
push_reserved-requires c =
    let p = has_place_in c.args.forms.now c.args.thread.now.frames.items (frame.Block c.args.block.left c.args.block.node c.args.block.next) (over c.args.done) (vec_capacity c.args.thread.now.frames) c.requires.room in
    omega (arith, p, c.args.thread.now.frames.ok)

pub leave-thread-requires-clause-frames : goal.leave-thread-requires-clause-frames
leave-thread-requires-clause-frames c =
    let n = length c.args.forms.now in
    subst (AreInside n) (sym c.push_reserved.ensures.items) (inside_push n c.args.thread.now.frames.items (frame.Block (c.args.block.left - 1) c.args.block.node c.args.block.next) c.requires.frames c.requires.inside)

pub leave-thread-requires-clause-room : goal.leave-thread-requires-clause-room
leave-thread-requires-clause-room c =
    let fs = c.args.forms.now in
    let js = drop c.args.block.next (items_at fs c.args.block.node) in
    room_in fs c.args.thread.now.frames.items c.push_reserved.new.self.items (frame.Block (c.args.block.left - 1) c.args.block.node c.args.block.next) (fill (around_items c.args.block.left (term_of fs) js) (over c.args.done)) (over c.args.done) (vec_capacity c.args.thread.now.frames) (vec_capacity c.push_reserved.new.self)
    c.push_reserved.ensures.items (depth_left (c.args.block.left - 1) c.args.block.left (term_of fs) js (over c.args.done)) c.requires.room c.push_reserved.ensures.capacity

pub returns-clause-step : goal.returns-clause-step
returns-clause-step c =
    let fs = c.args.forms.now in
    let js = drop c.args.block.next (items_at fs c.args.block.node) in
    let d = c.args.done in
    let s = state c.args.thread.now.number c.args.thread.now.slots.items c.args.heap.now.heap in
    let less = frame.Block (c.args.block.left - 1) c.args.block.node c.args.block.next in
    let none = all_dropped (items_at fs c.args.block.node) c.args.block.next (not_below c.has_item.result c.args.block.next _ c.has_item.ensures c.if-has_item.false) in
    step_in fs c.args.thread.now.frames.items (fill (around_items c.args.block.left (term_of fs) js) (over d)) (fill (around_items (c.args.block.left - 1) (term_of fs) js) (over d)) (wrapped fs c.leave-thread.new.frames.items (focus_run fs c.leave-thread.result)) s c.args.thread.now.number c.drop_slot-released.new.slots.items c.drop_slot-released.new.heap.heap c.drop_slot-released.new.labels.items c.drop_slot-released.result
    (settled_waits fs (frame.Block c.args.block.left c.args.block.node c.args.block.next) d c.requires.settled)
    (drop_turns c.args.block.left (term_of fs) js d s c.args.thread.now.number c.drop_slot-released.new.slots.items c.drop_slot-released.new.heap.heap c.drop_slot-released.new.labels.items c.drop_slot-released.result none (opened c.args.block.left (term_of fs) js d none c.requires.settled) c.drop_slot-released.ensures.act c.drop_slot-released.ensures.released)
    (c.leave-thread.ensures.settles ∙ ap (λ gs. settle (wrapped fs gs (over d))) c.push_reserved.ensures.items ∙ ap settle (wrap_push fs c.args.thread.now.frames.items less (over d)))
