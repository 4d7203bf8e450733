use Rattle.std.proofs.Common.{◌≤◌, length, drop, refl, sym, ap, ◌∙◌, subst, arith, vec_capacity}
use Rattle.fr_plain.specs.Run.{Run, arith as arith_r, block, settle}
use Rattle.fr_meaning.specs.declared.frame.Frame.{Frame}
use Rattle.fr_meaning.specs.declared.frame.Frame.TheVariants as frame
use Rattle.fr_meaning.specs.Contexts.{fill}
use Rattle.fr_forms.specs.Depths.{depth}
use Rattle.fr_forms.specs.FormTerms.{parts_of, term_of, items_at}
use Rattle.fr_meaning.specs.DoneTerms.{over}
use Rattle.fr_meaning.specs.FrameTerms.{Enters, wrapped, around, around_items, AreInside, IsInside}
use Rattle.fr_forms.proofs.FormLemmas.{at_drop, all_dropped}
use Rattle.fr_meaning.proofs.FrameLemmas.{inside_push, has_place_in, room_in, room_less, settle_over, more_stays, more_waits, more_vanishes, rest_below, last_part, last_part_past, last_part_waits, last_part_settles, left_done, goes_in, stays, not_below}
use Rattle.fr_meaning.proofs.control.leave_frame.Goals as goal

pub push_reserved-requires : goal.push_reserved-requires
push_reserved-requires c =
    let p = has_place_in c.args.forms.now c.args.frames.now.items c.args.frame (over c.args.done) (vec_capacity c.args.frames.now) c.requires.room in
    omega (arith, p, c.args.frames.now.ok)

pub enter-requires-clause-frames : goal.enter-requires-clause-frames
enter-requires-clause-frames c =
    let n = length c.args.forms.now in
    subst (AreInside n) (sym c.push_reserved.ensures.items) (inside_push n c.args.frames.now.items (frame.Right c.in-Left.op c.args.done) c.requires.frames tt)

pub enter-requires-clause-room : goal.enter-requires-clause-room
enter-requires-clause-room c =
    let fs = c.args.forms.now in
    let right = term_of fs c.in-Left.right in
    let room = subst (λ (g : Frame). depth (wrapped fs c.args.frames.now.items (fill (around fs g) (over c.args.done))) ≤ vec_capacity c.args.frames.now) c.in-Left.is c.requires.room in
    room_in fs c.args.frames.now.items c.push_reserved.new.self.items (frame.Right c.in-Left.op c.args.done) (arith_r c.in-Left.op (over c.args.done) right) right (vec_capacity c.args.frames.now) (vec_capacity c.push_reserved.new.self)
    c.push_reserved.ensures.items (omega arith) room c.push_reserved.ensures.capacity

pub returns-in-Left-clause-enters : goal.returns-in-Left-clause-enters
returns-in-Left-clause-enters c =
    let fs = c.args.forms.now in
    let right = term_of fs c.in-Left.right in
    let e = ap (λ (g : Frame). settle (fill (around fs g) (over c.args.done))) c.in-Left.is ∙ left_done c.in-Left.op (over c.args.done) right c.args.done (settle_over c.args.done) in
    goes_in fs c.args.frames.now.items c.push_reserved.new.self.items c.enter.new.frames.items (frame.Right c.in-Left.op c.args.done) (settle (fill (around fs c.args.frame) (over c.args.done))) (settle right) c.enter.result c.waits.result
    tt c.enter.ensures.enters c.push_reserved.ensures.items e refl (sym c.waits.ensures)

pub stay-requires : goal.stay-requires
stay-requires c =
    let p = has_place_in c.args.forms.now c.args.frames.now.items c.args.frame (over c.args.done) (vec_capacity c.args.frames.now) c.requires.room in
    omega (arith, p, c.args.frames.now.ok)

pub returns-in_default-frame : goal.returns-in_default-frame
returns-in_default-frame c =
    let fs = c.args.forms.now in
    let one = last_part c.args.frame c.in_default.not-Left c.in_default-frame.not-Block in
    record {
      enters = stays fs c.args.frames.now.items c.stay.new.frames.items c.args.frame c.args.done (settle (fill (around fs c.args.frame) (over c.args.done))) c.stay.result (last_part_past c.args.frame one) c.stay.ensures.frames c.stay.ensures.result
          (last_part_settles fs c.args.frame (over c.args.done) one ∙ ap (fill (around fs c.args.frame)) (settle_over c.args.done)) (last_part_waits fs c.args.frame (over c.args.done) one);
      capacity = c.stay.ensures.capacity;
      frames = subst (AreInside (length fs)) (sym c.stay.ensures.frames) (inside_push (length fs) c.args.frames.now.items c.args.frame c.requires.frames c.requires.frame);
    }

pub end_items-requires-clause-room : goal.end_items-requires-clause-room
end_items-requires-clause-room c =
    let p = has_place_in c.args.forms.now c.args.frames.now.items c.args.frame (over c.args.done) (vec_capacity c.args.frames.now) c.requires.room in
    omega (arith, p, c.args.frames.now.ok)

pub returns-then-not-has_item-clause-enters : goal.returns-then-not-has_item-clause-enters
returns-then-not-has_item-clause-enters c =
    let fs = c.args.forms.now in
    let none = all_dropped (items_at fs c.in-Block.node) c.in-Block.next (not_below c.has_item.result c.in-Block.next _ c.has_item.ensures c.if-not-has_item.true) in
    let e = ap (λ (g : Frame). settle (fill (around fs g) (over c.args.done))) c.in-Block.is ∙ ap (λ l. settle (fill (around_items c.in-Block.left (term_of fs) l) (over c.args.done))) none in
    subst (λ (r : Run). Enters fs c.args.frames.now.items c.end_items.new.frames.items r c.end_items.result) (sym e) c.end_items.ensures.enters

pub stay-requires-then-is_temporary : goal.stay-requires-then-is_temporary
stay-requires-then-is_temporary c =
    let p = has_place_in c.args.forms.now c.args.frames.now.items c.args.frame (over c.args.done) (vec_capacity c.args.frames.now) c.requires.room in
    omega (arith, p, c.args.frames.now.ok)

pub returns-then-is_temporary-clause-enters : goal.returns-then-is_temporary-clause-enters
returns-then-is_temporary-clause-enters c =
    let fs = c.args.forms.now in
    let more = at_drop (items_at fs c.in-Block.node) c.in-Block.next 0 (c.has_item.ensures.0 c.if-not-has_item.false) in
    let b = frame.Block c.in-Block.left c.in-Block.node c.in-Block.next in
    let js = drop c.in-Block.next (items_at fs c.in-Block.node) in
    let t = sym c.is_temporary.ensures ∙ c.if-is_temporary.true in
    stays fs c.args.frames.now.items c.stay-then-is_temporary.new.frames.items b c.args.done (settle (fill (around fs c.args.frame) (over c.args.done))) c.stay-then-is_temporary.result tt c.stay-then-is_temporary.ensures.frames c.stay-then-is_temporary.ensures.result
    (ap (λ (g : Frame). settle (fill (around fs g) (over c.args.done))) c.in-Block.is ∙ more_stays c.in-Block.left (term_of fs) js _ _ (over c.args.done) c.args.done more (settle_over c.args.done) t ∙ ap (fill (around fs b)) (settle_over c.args.done))
    (more_waits c.in-Block.left (term_of fs) js _ _ c.args.done more t)

pub returns-then-is_temporary-clause-frames : goal.returns-then-is_temporary-clause-frames
returns-then-is_temporary-clause-frames c =
    let n = length c.args.forms.now in
    subst (AreInside n) (sym c.stay-then-is_temporary.ensures.frames) (inside_push n c.args.frames.now.items (frame.Block c.in-Block.left c.in-Block.node c.in-Block.next) c.requires.frames (subst (IsInside n) c.in-Block.is c.requires.frame))

pub enter_items-requires-clause-room : goal.enter_items-requires-clause-room
enter_items-requires-clause-room c =
    let fs = c.args.forms.now in
    let js = drop c.in-Block.next (items_at fs c.in-Block.node) in
    let room = subst (λ (g : Frame). depth (wrapped fs c.args.frames.now.items (fill (around fs g) (over c.args.done))) ≤ vec_capacity c.args.frames.now) c.in-Block.is c.requires.room in
    room_less fs c.args.frames.now.items c.args.frames.now.items (fill (around_items c.in-Block.left (term_of fs) js) (over c.args.done)) (block c.in-Block.left (parts_of (term_of fs) js)) (vec_capacity c.args.frames.now) (vec_capacity c.args.frames.now)
    refl (rest_below c.in-Block.left (term_of fs) js (over c.args.done)) room refl

pub returns-clause-enters : goal.returns-clause-enters
returns-clause-enters c =
    let fs = c.args.forms.now in
    let more = at_drop (items_at fs c.in-Block.node) c.in-Block.next 0 (c.has_item.ensures.0 c.if-not-has_item.false) in
    let js = drop c.in-Block.next (items_at fs c.in-Block.node) in
    let t = sym c.is_temporary.ensures ∙ c.if-is_temporary.false in
    let e = ap (λ (g : Frame). settle (fill (around fs g) (over c.args.done))) c.in-Block.is ∙ more_vanishes c.in-Block.left (term_of fs) js _ _ (over c.args.done) c.args.done more (settle_over c.args.done) t in
    subst (λ (r : Run). Enters fs c.args.frames.now.items c.enter_items.new.frames.items r c.enter_items.result) (sym e) c.enter_items.ensures.enters
