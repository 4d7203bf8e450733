use Rattle.std.proofs.Common.{List, length, sym, ap, ◌∙◌, subst, arith, vec_capacity}
use Rattle.fr_plain.specs.Run.{Run, block, last, settle}
use Rattle.fr_forms.specs.Depths.{depth}
use Rattle.fr_forms.specs.FormTerms.{term_of}
use Rattle.fr_meaning.specs.declared.frame.Frame.{Frame}
use Rattle.fr_meaning.specs.declared.frame.Frame.TheVariants as frame
use Rattle.fr_meaning.specs.Contexts.{in_last}
use Rattle.fr_meaning.specs.DoneTerms.{over}
use Rattle.fr_meaning.specs.FrameTerms.{Enters, around, AreInside}
use Rattle.fr_meaning.proofs.BodyLemmas.{last_fill}
use Rattle.fr_meaning.proofs.ContextLemmas.{now_fill, settle_fill, settle_same_fill}
use Rattle.fr_meaning.proofs.FrameLemmas.{inside_push, has_place, room_in, settle_over, entered_over, entered_waits, goes_on_in}
use Rattle.fr_meaning.proofs.bodies.enter_last.Goals as goal

pub push_reserved-requires : goal.push_reserved-requires
push_reserved-requires c =
    let p = has_place c.args.forms.now c.args.frames.now.items (block c.args.left (last (term_of c.args.forms.now c.args.part))) (vec_capacity c.args.frames.now) (omega arith) c.requires.room in
    omega (arith, p, c.args.frames.now.ok)

pub enter-requires-clause-frames : goal.enter-requires-clause-frames
enter-requires-clause-frames c =
    let n = length c.args.forms.now in
    subst (AreInside n) (sym c.push_reserved.ensures.items) (inside_push n c.args.frames.now.items (frame.Block c.args.left c.args.node 0) c.requires.frames c.requires.inside)

pub enter-requires-clause-room : goal.enter-requires-clause-room
enter-requires-clause-room c =
    let fs = c.args.forms.now in
    let r = term_of fs c.args.part in
    room_in fs c.args.frames.now.items c.push_reserved.new.self.items (frame.Block c.args.left c.args.node 0) (block c.args.left (last r)) r (vec_capacity c.args.frames.now) (vec_capacity c.push_reserved.new.self) c.push_reserved.ensures.items
    (omega (arith, ap depth (last_fill fs c.args.node c.args.left r c.requires.none))) c.requires.room c.push_reserved.ensures.capacity

pub returns-in-Waits-clause-enters : goal.returns-in-Waits-clause-enters
returns-in-Waits-clause-enters c =
    let fs = c.args.forms.now in
    let r = term_of fs c.args.part in
    let g = frame.Block c.args.left c.args.node 0 in
    let w = entered_waits fs c.push_reserved.new.self.items c.enter.new.frames.items (settle r) c.enter.result c.in-Waits.focus c.enter.ensures.enters c.in-Waits.is in
    goes_on_in fs c.args.frames.now.items c.push_reserved.new.self.items c.enter.new.frames.items g (settle (block c.args.left (last r))) (settle r) c.enter.result c.in-Waits.focus
    c.enter.ensures.enters c.in-Waits.is c.push_reserved.ensures.items (settle_fill (in_last c.args.left) r w ∙ sym (last_fill fs c.args.node c.args.left (settle r) c.requires.none)) (now_fill (around fs g) (settle r) w)

pub end_items-requires-clause-room : goal.end_items-requires-clause-room
end_items-requires-clause-room c =
    let fs = c.args.forms.now in
    let r = term_of fs c.args.part in
    let p = has_place fs c.args.frames.now.items (block c.args.left (last r)) (vec_capacity c.args.frames.now) (omega arith) c.requires.room in
    let o = entered_over fs c.push_reserved.new.self.items c.enter.new.frames.items (settle r) c.enter.result c.in-Ended.done c.enter.ensures.enters c.in-Ended.is in
    let back = c.leave_top.ensures.frames c.args.frames.now.items (frame.Block c.args.left c.args.node 0) (o.1 ∙ c.push_reserved.ensures.items) in
    omega (arith, p, ap length back, c.leave_top.new.frames.ok, c.leave_top.ensures.capacity, c.enter.ensures.capacity, c.push_reserved.ensures.capacity)

pub end_items-requires-clause-frames : goal.end_items-requires-clause-frames
end_items-requires-clause-frames c =
    let fs = c.args.forms.now in
    let r = term_of fs c.args.part in
    let o = entered_over fs c.push_reserved.new.self.items c.enter.new.frames.items (settle r) c.enter.result c.in-Ended.done c.enter.ensures.enters c.in-Ended.is in
    let back = c.leave_top.ensures.frames c.args.frames.now.items (frame.Block c.args.left c.args.node 0) (o.1 ∙ c.push_reserved.ensures.items) in
    subst (AreInside (length fs)) (sym back) c.requires.frames

pub returns-in-Ended-clause-enters : goal.returns-in-Ended-clause-enters
returns-in-Ended-clause-enters c =
    let fs = c.args.forms.now in
    let r = term_of fs c.args.part in
    let o = entered_over fs c.push_reserved.new.self.items c.enter.new.frames.items (settle r) c.enter.result c.in-Ended.done c.enter.ensures.enters c.in-Ended.is in
    let back = c.leave_top.ensures.frames c.args.frames.now.items (frame.Block c.args.left c.args.node 0) (o.1 ∙ c.push_reserved.ensures.items) in
    let same = settle_same_fill (in_last c.args.left) r (over c.in-Ended.done) (o.0 ∙ sym (settle_over c.in-Ended.done)) in
    subst (λ (q : Run). Enters fs c.args.frames.now.items c.end_items.new.frames.items q c.end_items.result) (sym same)
    (subst (λ (gs : List Frame). Enters fs gs c.end_items.new.frames.items (settle (block c.args.left (last (over c.in-Ended.done)))) c.end_items.result) back c.end_items.ensures.enters)
