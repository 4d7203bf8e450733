use Rattle.std.proofs.Common.{drop, ap, ◌∙◌, arith, vec_capacity}
use Rattle.fr_plain.specs.Run.{block, settle}
use Rattle.fr_forms.specs.FormTerms.{parts_of, term_of, items_at}
use Rattle.fr_meaning.specs.DoneTerms.{over}
use Rattle.fr_meaning.specs.FrameTerms.{wrapped}
use Rattle.fr_meaning.proofs.FrameLemmas.{depth_over, room_less, entered_over, frame_ended, frame_waits}
use Rattle.fr_meaning.proofs.machine.next_item.Goals as goal

pub leave-requires-clause-room : goal.leave-requires-clause-room
leave-requires-clause-room c =
    let fs = c.args.forms.now in
    let r = block c.args.left (parts_of (term_of fs) (drop c.args.next (items_at fs c.args.node))) in
    let o = entered_over fs c.args.frames.now.items c.enter_items.new.frames.items (settle r) c.enter_items.result c.in-Ended.done c.enter_items.ensures.enters c.in-Ended.is in
    room_less fs c.args.frames.now.items c.enter_items.new.frames.items r (over c.in-Ended.done) (vec_capacity c.args.frames.now) (vec_capacity c.enter_items.new.frames) o.1 (omega (arith, depth_over c.in-Ended.done)) c.requires.room c.enter_items.ensures.capacity

pub returns-in-Ended-clause-settles : goal.returns-in-Ended-clause-settles
returns-in-Ended-clause-settles c =
    let fs = c.args.forms.now in
    let r = block c.args.left (parts_of (term_of fs) (drop c.args.next (items_at fs c.args.node))) in
    let o = entered_over fs c.args.frames.now.items c.enter_items.new.frames.items (settle r) c.enter_items.result c.in-Ended.done c.enter_items.ensures.enters c.in-Ended.is in
    c.leave.ensures.settles ∙ ap (λ gs. settle (wrapped fs gs (over c.in-Ended.done))) o.1 ∙ frame_ended fs c.args.frames.now.items r c.in-Ended.done o.0

pub returns-in-Waits-clause-settles : goal.returns-in-Waits-clause-settles
returns-in-Waits-clause-settles c =
    let fs = c.args.forms.now in
    frame_waits fs c.args.frames.now.items c.enter_items.new.frames.items (block c.args.left (parts_of (term_of fs) (drop c.args.next (items_at fs c.args.node)))) c.enter_items.result c.in-Waits.focus c.enter_items.ensures.enters c.in-Waits.is
