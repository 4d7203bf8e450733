use Rattle.std.proofs.Common.{length, sym, ap, ◌∙◌, subst, arith, vec_capacity}
use Rattle.fr_plain.specs.Run.{settle}
use Rattle.fr_meaning.specs.Contexts.{fill}
use Rattle.fr_forms.specs.Depths.{depth}
use Rattle.fr_meaning.specs.DoneTerms.{over}
use Rattle.fr_meaning.specs.FrameTerms.{wrapped, around, AreInside, TopIsPastLeft}
use Rattle.fr_meaning.proofs.FrameLemmas.{inside_front, wrap_push, no_items, settle_over, depth_over, room_less, entered_over, frame_ended, frame_waits, waits_way}
use Rattle.fr_meaning.proofs.control.leave.Goals as goal

pub leave_frame-requires-clause-frame : goal.leave_frame-requires-clause-frame
leave_frame-requires-clause-frame c =
    (inside_front (length c.args.forms.now) c.pop.new.self.items c.in-Some.frame (subst (AreInside (length c.args.forms.now)) c.in-Some.ensures.items c.outer.invariant.inside)).1

pub leave_frame-requires-clause-frames : goal.leave_frame-requires-clause-frames
leave_frame-requires-clause-frames c =
    (inside_front (length c.args.forms.now) c.pop.new.self.items c.in-Some.frame (subst (AreInside (length c.args.forms.now)) c.in-Some.ensures.items c.outer.invariant.inside)).0

pub leave_frame-requires-clause-room : goal.leave_frame-requires-clause-room
leave_frame-requires-clause-room c =
    let fs = c.args.forms.now in
    let e = ap (λ gs. wrapped fs gs (over c.outer.done)) c.in-Some.ensures.items ∙ wrap_push fs c.pop.new.self.items c.in-Some.frame (over c.outer.done) in
    let d = ap depth e in
    omega (arith, d, c.outer.invariant.room, c.in-Some.ensures.capacity)

pub outer-preserved : goal.outer-preserved
outer-preserved c =
    let fs = c.args.forms.now in
    let whole = fill (around fs c.in-Some.frame) (over c.outer.done) in
    let e = ap (λ gs. wrapped fs gs (over c.outer.done)) c.in-Some.ensures.items ∙ wrap_push fs c.pop.new.self.items c.in-Some.frame (over c.outer.done) in
    let d = ap depth e in
    let o = entered_over fs c.pop.new.self.items c.leave_frame.new.frames.items (settle whole) c.leave_frame.result c.in-Ended.next c.leave_frame.ensures.enters c.in-Ended.is in
    record {
      settles = ap (λ gs. settle (wrapped fs gs (over c.in-Ended.next))) o.1 ∙ frame_ended fs c.pop.new.self.items whole c.in-Ended.next o.0 ∙ ap settle (sym e) ∙ c.outer.invariant.settles;
      inside = c.leave_frame.ensures.frames;
      capacity = c.leave_frame.ensures.capacity ∙ c.in-Some.ensures.capacity ∙ c.outer.invariant.capacity;
      room = room_less fs c.pop.new.self.items c.leave_frame.new.frames.items whole (over c.in-Ended.next) (vec_capacity c.outer.frames) (vec_capacity c.leave_frame.new.frames) o.1 (omega (arith, depth_over c.in-Ended.next)) (omega (arith, d, c.outer.invariant.room))
          (c.leave_frame.ensures.capacity ∙ c.in-Some.ensures.capacity);
    }

pub returns-in-Waits-clause-settles : goal.returns-in-Waits-clause-settles
returns-in-Waits-clause-settles c =
    let fs = c.args.forms.now in
    let whole = fill (around fs c.in-Some.frame) (over c.outer.done) in
    let e = ap (λ gs. wrapped fs gs (over c.outer.done)) c.in-Some.ensures.items ∙ wrap_push fs c.pop.new.self.items c.in-Some.frame (over c.outer.done) in
    frame_waits fs c.pop.new.self.items c.leave_frame.new.frames.items whole c.leave_frame.result c.in-Waits.focus c.leave_frame.ensures.enters c.in-Waits.is ∙ ap settle (sym e) ∙ c.outer.invariant.settles

pub returns-clause-settles : goal.returns-clause-settles
returns-clause-settles c =
    let fs = c.args.forms.now in
    let new = no_items c.pop.new.self.items (omega (arith, c.in_default.ensures.cases.1, c.pop.new.self.ok)) in
    let old = no_items c.outer.frames.items (omega (arith, c.in_default.ensures.cases.0, c.outer.frames.ok)) in
    ap (λ gs. wrapped fs gs (over c.outer.done)) new ∙ sym (settle_over c.outer.done) ∙ sym (ap (λ gs. settle (wrapped fs gs (over c.outer.done))) old) ∙ c.outer.invariant.settles

pub returns-in-Waits-clause-way : goal.returns-in-Waits-clause-way
returns-in-Waits-clause-way c =
    let whole = fill (around c.args.forms.now c.in-Some.frame) (over c.outer.done) in
    waits_way c.args.forms.now c.pop.new.self.items c.leave_frame.new.frames.items (settle whole) c.leave_frame.result c.in-Waits.focus c.leave_frame.ensures.enters c.in-Waits.is

pub returns-clause-way : goal.returns-clause-way
returns-clause-way c =
    let new = no_items c.pop.new.self.items (omega (arith, c.in_default.ensures.cases.1, c.pop.new.self.ok)) in
    subst TopIsPastLeft (sym new) tt
