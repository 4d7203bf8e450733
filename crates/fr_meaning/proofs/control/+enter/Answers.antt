use Rattle.std.proofs.Common.{◌≡◌, ℕ, ◌<◌, ◌≤◌, ◌+◌, ◌++◌, ◌∷◌, [], List, length, drop, get_or, refl, sym, ap, ◌∙◌, subst, arith, vec_capacity}
use Rattle.fr_plain.specs.Run.{Run, arith as arith_r, block, settle, now, going, last, unit_c}
use Rattle.fr_meaning.specs.declared.frame.Frame.{Frame}
use Rattle.fr_meaning.specs.declared.frame.Frame.TheVariants as frame
use Rattle.fr_meaning.specs.declared.frame.Entered.TheVariants as entered
use Rattle.fr_meaning.specs.Contexts.{in_left, fill}
use Rattle.fr_forms.specs.Depths.{depth, depth_in}
use Rattle.fr_forms.specs.FormTerms.{parts_of, term_of, items_at, IsSpawn, IsLock, IsPar}
use Rattle.fr_meaning.specs.DoneTerms.{over}
use Rattle.fr_meaning.specs.FrameTerms.{Enters, wrapped, around, waits_of, AreInside}
use Rattle.fr_forms.proofs.FormLemmas.{form_term, form_below, items_here, form_here, item_below, at_drop, all_dropped}
use Rattle.fr_meaning.proofs.ContextLemmas.{now_fill, settle_fill}
use Rattle.fr_meaning.proofs.FrameLemmas.{inside_push, last_inside, last_part_past, last_part_settles, last_part_waits, has_place, has_place_in, room_in, room_less, item_row, last_ends, last_stays, last_waits, more_stays, more_waits, more_vanishes, fewer_shallow, right_shallow, left_done, entered_over, entered_waits, goes_in, goes_on_in, goes_by}
use Rattle.fr_meaning.proofs.control.+enter.Goals as goal

pub enter-enter_part-requires : goal.enter-enter_part-requires
enter-enter_part-requires t c =
    let fs = c.args.forms.now in
    let below : c.in-Box.part < c.args.at = form_below fs c.args.at c.index-forms-at.result _ c.requires.order c.requires.inside c.index-forms-at.is c.in-Box.is in
    let room = subst (λ (r : Run). depth (wrapped fs c.args.frames.now.items r) ≤ vec_capacity c.args.frames.now) (form_term fs c.args.at c.index-forms-at.result _ c.requires.order c.requires.inside c.index-forms-at.is c.in-Box.is) c.requires.room in
    (omega (arith, c.decreases, below), (c.requires.order, (tt, (omega (arith, below, c.requires.inside), (c.requires.frames, room)))))

pub enter-returns-in-Box-clause-enters : goal.enter-returns-in-Box-clause-enters
enter-returns-in-Box-clause-enters t c =
    let fs = c.args.forms.now in
    subst (λ (r : Run). Enters fs c.args.frames.now.items c.enter_part.new.frames.items (settle r) c.enter_part.result) (sym (form_term fs c.args.at c.index-forms-at.result _ c.requires.order c.requires.inside c.index-forms-at.is c.in-Box.is)) c.enter_part.ensures.enters

pub enter-enter_part-requires-in-Let : goal.enter-enter_part-requires-in-Let
enter-enter_part-requires-in-Let t c =
    let fs = c.args.forms.now in
    let below : c.in-Let.part < c.args.at = form_below fs c.args.at c.index-forms-at.result _ c.requires.order c.requires.inside c.index-forms-at.is c.in-Let.is in
    let room = subst (λ (r : Run). depth (wrapped fs c.args.frames.now.items r) ≤ vec_capacity c.args.frames.now) (form_term fs c.args.at c.index-forms-at.result _ c.requires.order c.requires.inside c.index-forms-at.is c.in-Let.is) c.requires.room in
    (omega (arith, c.decreases, below), (c.requires.order, (tt, (omega (arith, below, c.requires.inside), (c.requires.frames, room)))))

pub enter-returns-in-Let-clause-enters : goal.enter-returns-in-Let-clause-enters
enter-returns-in-Let-clause-enters t c =
    let fs = c.args.forms.now in
    subst (λ (r : Run). Enters fs c.args.frames.now.items c.enter_part-in-Let.new.frames.items (settle r) c.enter_part-in-Let.result) (sym (form_term fs c.args.at c.index-forms-at.result _ c.requires.order c.requires.inside c.index-forms-at.is c.in-Let.is)) c.enter_part-in-Let.ensures.enters

pub enter-enter_part-requires-in-Print : goal.enter-enter_part-requires-in-Print
enter-enter_part-requires-in-Print t c =
    let fs = c.args.forms.now in
    let below : c.in-Print.part < c.args.at = form_below fs c.args.at c.index-forms-at.result _ c.requires.order c.requires.inside c.index-forms-at.is c.in-Print.is in
    let room = subst (λ (r : Run). depth (wrapped fs c.args.frames.now.items r) ≤ vec_capacity c.args.frames.now) (form_term fs c.args.at c.index-forms-at.result _ c.requires.order c.requires.inside c.index-forms-at.is c.in-Print.is) c.requires.room in
    (omega (arith, c.decreases, below), (c.requires.order, (tt, (omega (arith, below, c.requires.inside), (c.requires.frames, room)))))

pub enter-returns-in-Print-clause-enters : goal.enter-returns-in-Print-clause-enters
enter-returns-in-Print-clause-enters t c =
    let fs = c.args.forms.now in
    subst (λ (r : Run). Enters fs c.args.frames.now.items c.enter_part-in-Print.new.frames.items (settle r) c.enter_part-in-Print.result) (sym (form_term fs c.args.at c.index-forms-at.result _ c.requires.order c.requires.inside c.index-forms-at.is c.in-Print.is)) c.enter_part-in-Print.ensures.enters

pub enter-enter_part-requires-in-Join : goal.enter-enter_part-requires-in-Join
enter-enter_part-requires-in-Join t c =
    let fs = c.args.forms.now in
    let below : c.in-Join.part < c.args.at = form_below fs c.args.at c.index-forms-at.result _ c.requires.order c.requires.inside c.index-forms-at.is c.in-Join.is in
    let room = subst (λ (r : Run). depth (wrapped fs c.args.frames.now.items r) ≤ vec_capacity c.args.frames.now) (form_term fs c.args.at c.index-forms-at.result _ c.requires.order c.requires.inside c.index-forms-at.is c.in-Join.is) c.requires.room in
    (omega (arith, c.decreases, below), (c.requires.order, (tt, (omega (arith, below, c.requires.inside), (c.requires.frames, room)))))

pub enter-returns-in-Join-clause-enters : goal.enter-returns-in-Join-clause-enters
enter-returns-in-Join-clause-enters t c =
    let fs = c.args.forms.now in
    subst (λ (r : Run). Enters fs c.args.frames.now.items c.enter_part-in-Join.new.frames.items (settle r) c.enter_part-in-Join.result) (sym (form_term fs c.args.at c.index-forms-at.result _ c.requires.order c.requires.inside c.index-forms-at.is c.in-Join.is)) c.enter_part-in-Join.ensures.enters

pub enter-enter_part-requires-in-Mutex : goal.enter-enter_part-requires-in-Mutex
enter-enter_part-requires-in-Mutex t c =
    let fs = c.args.forms.now in
    let below : c.in-Mutex.part < c.args.at = form_below fs c.args.at c.index-forms-at.result _ c.requires.order c.requires.inside c.index-forms-at.is c.in-Mutex.is in
    let room = subst (λ (r : Run). depth (wrapped fs c.args.frames.now.items r) ≤ vec_capacity c.args.frames.now) (form_term fs c.args.at c.index-forms-at.result _ c.requires.order c.requires.inside c.index-forms-at.is c.in-Mutex.is) c.requires.room in
    (omega (arith, c.decreases, below), (c.requires.order, (tt, (omega (arith, below, c.requires.inside), (c.requires.frames, room)))))

pub enter-returns-in-Mutex-clause-enters : goal.enter-returns-in-Mutex-clause-enters
enter-returns-in-Mutex-clause-enters t c =
    let fs = c.args.forms.now in
    subst (λ (r : Run). Enters fs c.args.frames.now.items c.enter_part-in-Mutex.new.frames.items (settle r) c.enter_part-in-Mutex.result) (sym (form_term fs c.args.at c.index-forms-at.result _ c.requires.order c.requires.inside c.index-forms-at.is c.in-Mutex.is)) c.enter_part-in-Mutex.ensures.enters

pub enter-enter_part-requires-in-Assign : goal.enter-enter_part-requires-in-Assign
enter-enter_part-requires-in-Assign t c =
    let fs = c.args.forms.now in
    let below : c.in-Assign.part < c.args.at = form_below fs c.args.at c.index-forms-at.result _ c.requires.order c.requires.inside c.index-forms-at.is c.in-Assign.is in
    let room = subst (λ (r : Run). depth (wrapped fs c.args.frames.now.items r) ≤ vec_capacity c.args.frames.now) (form_term fs c.args.at c.index-forms-at.result _ c.requires.order c.requires.inside c.index-forms-at.is c.in-Assign.is) c.requires.room in
    (omega (arith, c.decreases, below), (c.requires.order, (tt, (omega (arith, below, c.requires.inside), (c.requires.frames, room)))))

pub enter-returns-in-Assign-clause-enters : goal.enter-returns-in-Assign-clause-enters
enter-returns-in-Assign-clause-enters t c =
    let fs = c.args.forms.now in
    subst (λ (r : Run). Enters fs c.args.frames.now.items c.enter_part-in-Assign.new.frames.items (settle r) c.enter_part-in-Assign.result) (sym (form_term fs c.args.at c.index-forms-at.result _ c.requires.order c.requires.inside c.index-forms-at.is c.in-Assign.is)) c.enter_part-in-Assign.ensures.enters

pub enter_part-push_reserved-requires : goal.enter_part-push_reserved-requires
enter_part-push_reserved-requires t c =
    let p = has_place_in c.args.forms.now c.args.frames.now.items c.args.frame (term_of c.args.forms.now c.args.part) (vec_capacity c.args.frames.now) c.requires.room in
    omega (arith, p, c.args.frames.now.ok)

pub enter_part-enter-requires : goal.enter_part-enter-requires
enter_part-enter-requires t c =
    let fs = c.args.forms.now in (
      omega (arith, c.decreases),
      (
        c.requires.order,
        (
          c.requires.inside,
          (
            subst (AreInside (length fs)) (sym c.push_reserved.ensures.items) (inside_push (length fs) c.args.frames.now.items c.args.frame c.requires.frames (last_inside (length fs) c.args.frame c.requires.last)),
            room_in fs c.args.frames.now.items c.push_reserved.new.self.items c.args.frame (fill (around fs c.args.frame) (term_of fs c.args.part)) (term_of fs c.args.part) (vec_capacity c.args.frames.now) (vec_capacity c.push_reserved.new.self) c.push_reserved.ensures.items (omega arith) c.requires.room c.push_reserved.ensures.capacity,
          ),
        ),
      ),
    )

pub enter_part-returns-clause-enters : goal.enter_part-returns-clause-enters
enter_part-returns-clause-enters t c =
    let fs = c.args.forms.now in
    let r = term_of fs c.args.part in
    goes_in fs c.args.frames.now.items c.push_reserved.new.self.items c.enter.new.frames.items c.args.frame (settle (fill (around fs c.args.frame) r)) (settle r) c.enter.result c.waits.result
    (last_part_past c.args.frame c.requires.last) c.enter.ensures.enters c.push_reserved.ensures.items (last_part_settles fs c.args.frame r c.requires.last) (last_part_waits fs c.args.frame (settle r) c.requires.last) (sym c.waits.ensures)

pub enter-enter_operands-requires : goal.enter-enter_operands-requires
enter-enter_operands-requires t c =
    let fs = c.args.forms.now in
    let below : (c.in-Arith.left < c.args.at) × (c.in-Arith.right < c.args.at) = form_below fs c.args.at c.index-forms-at.result _ c.requires.order c.requires.inside c.index-forms-at.is c.in-Arith.is in
    let room = subst (λ (r : Run). depth (wrapped fs c.args.frames.now.items r) ≤ vec_capacity c.args.frames.now) (form_term fs c.args.at c.index-forms-at.result _ c.requires.order c.requires.inside c.index-forms-at.is c.in-Arith.is) c.requires.room in
    (omega (arith, c.decreases, below.0, below.1), (c.requires.order, (omega (arith, below.0), (omega (arith, below.1), (c.requires.frames, room)))))

pub enter-returns-in-Arith-clause-enters : goal.enter-returns-in-Arith-clause-enters
enter-returns-in-Arith-clause-enters t c =
    let fs = c.args.forms.now in
    subst (λ (r : Run). Enters fs c.args.frames.now.items c.enter_operands.new.frames.items (settle r) c.enter_operands.result) (sym (form_term fs c.args.at c.index-forms-at.result _ c.requires.order c.requires.inside c.index-forms-at.is c.in-Arith.is)) c.enter_operands.ensures.enters

pub enter_operands-push_reserved-requires : goal.enter_operands-push_reserved-requires
enter_operands-push_reserved-requires t c =
    let fs = c.args.forms.now in
    let p = has_place fs c.args.frames.now.items (arith_r c.args.op (term_of fs c.args.left) (term_of fs c.args.right)) (vec_capacity c.args.frames.now) (omega arith) c.requires.room in
    omega (arith, p, c.args.frames.now.ok)

pub enter_operands-enter-requires : goal.enter_operands-enter-requires
enter_operands-enter-requires t c =
    let fs = c.args.forms.now in
    let left = term_of fs c.args.left in
    let right = term_of fs c.args.right in
    let g = frame.Left c.args.op c.args.right in (
      omega (arith, c.decreases),
      (
        c.requires.order,
        (
          c.requires.left,
          (
            subst (AreInside (length fs)) (sym c.push_reserved.ensures.items) (inside_push (length fs) c.args.frames.now.items g c.requires.frames (c.requires.right)),
            room_in fs c.args.frames.now.items c.push_reserved.new.self.items g (arith_r c.args.op left right) left (vec_capacity c.args.frames.now) (vec_capacity c.push_reserved.new.self) c.push_reserved.ensures.items (omega arith) c.requires.room c.push_reserved.ensures.capacity,
          ),
        ),
      ),
    )

pub enter_operands-enter-requires-in-Ended : goal.enter_operands-enter-requires-in-Ended
enter_operands-enter-requires-in-Ended t c =
    let fs = c.args.forms.now in
    let left = term_of fs c.args.left in
    let right = term_of fs c.args.right in
    let g = frame.Left c.args.op c.args.right in
    let k = frame.Right c.args.op c.in-Ended.done in
    let o = entered_over fs c.push_reserved.new.self.items c.enter.new.frames.items (settle left) c.enter.result c.in-Ended.done c.enter.ensures.enters c.in-Ended.is in
    let back = c.leave_top.ensures.frames c.args.frames.now.items g (o.1 ∙ c.push_reserved.ensures.items) in
    let pushed = c.push_reserved-in-Ended.ensures.items ∙ ap (λ gs. gs ++ k ∷ []) back in (
      omega (arith, c.decreases),
      (
        c.requires.order,
        (
          c.requires.right,
          (
            subst (AreInside (length fs)) (sym pushed) (inside_push (length fs) c.args.frames.now.items k c.requires.frames tt),
            room_in fs c.args.frames.now.items c.push_reserved-in-Ended.new.self.items k (arith_r c.args.op left right) right (vec_capacity c.args.frames.now) (vec_capacity c.push_reserved-in-Ended.new.self) pushed (right_shallow c.args.op left right c.in-Ended.done) c.requires.room
                (c.push_reserved-in-Ended.ensures.capacity ∙ c.leave_top.ensures.capacity ∙ c.enter.ensures.capacity ∙ c.push_reserved.ensures.capacity),
          ),
        ),
      ),
    )

pub enter_operands-returns-in-Waits-clause-enters : goal.enter_operands-returns-in-Waits-clause-enters
enter_operands-returns-in-Waits-clause-enters t c =
    let fs = c.args.forms.now in
    let left = term_of fs c.args.left in
    let right = term_of fs c.args.right in
    let w = entered_waits fs c.push_reserved.new.self.items c.enter.new.frames.items (settle left) c.enter.result c.in-Waits.focus c.enter.ensures.enters c.in-Waits.is in
    goes_on_in fs c.args.frames.now.items c.push_reserved.new.self.items c.enter.new.frames.items (frame.Left c.args.op c.args.right) (settle (arith_r c.args.op left right)) (settle left) c.enter.result c.in-Waits.focus
    c.enter.ensures.enters c.in-Waits.is c.push_reserved.ensures.items (settle_fill (in_left c.args.op right) left w) refl

pub enter_operands-returns-in-Ended-clause-enters : goal.enter_operands-returns-in-Ended-clause-enters
enter_operands-returns-in-Ended-clause-enters t c =
    let fs = c.args.forms.now in
    let left = term_of fs c.args.left in
    let right = term_of fs c.args.right in
    let g = frame.Left c.args.op c.args.right in
    let k = frame.Right c.args.op c.in-Ended.done in
    let o = entered_over fs c.push_reserved.new.self.items c.enter.new.frames.items (settle left) c.enter.result c.in-Ended.done c.enter.ensures.enters c.in-Ended.is in
    let back = c.leave_top.ensures.frames c.args.frames.now.items g (o.1 ∙ c.push_reserved.ensures.items) in
    let pushed = c.push_reserved-in-Ended.ensures.items ∙ ap (λ gs. gs ++ k ∷ []) back in
    goes_in fs c.args.frames.now.items c.push_reserved-in-Ended.new.self.items c.enter-in-Ended.new.frames.items k (settle (arith_r c.args.op left right)) (settle right) c.enter-in-Ended.result c.waits.result
    tt c.enter-in-Ended.ensures.enters pushed (left_done c.args.op left right c.in-Ended.done o.0) refl (sym c.waits.ensures)

pub enter-returns-in-Number-clause-enters : goal.enter-returns-in-Number-clause-enters
enter-returns-in-Number-clause-enters t c =
    let fs = c.args.forms.now in
    (ap settle (form_term fs c.args.at c.index-forms-at.result _ c.requires.order c.requires.inside c.index-forms-at.is c.in-Number.is) ∙ ap over (sym c.number_done.ensures), refl)

pub enter-returns-in-Unit-clause-enters : goal.enter-returns-in-Unit-clause-enters
enter-returns-in-Unit-clause-enters t c =
    let fs = c.args.forms.now in
    (ap settle (form_term fs c.args.at c.index-forms-at.result _ c.requires.order c.requires.inside c.index-forms-at.is c.in-Unit.is), refl)

pub enter-returns-in-Place-clause-enters : goal.enter-returns-in-Place-clause-enters
enter-returns-in-Place-clause-enters t c =
    let fs = c.args.forms.now in
    (ap settle (form_term fs c.args.at c.index-forms-at.result _ c.requires.order c.requires.inside c.index-forms-at.is c.in-Place.is), refl)

pub enter-returns-in-Read-clause-enters : goal.enter-returns-in-Read-clause-enters
enter-returns-in-Read-clause-enters t c =
    let fs = c.args.forms.now in
    let e = form_term fs c.args.at c.index-forms-at.result _ c.requires.order c.requires.inside c.index-forms-at.is c.in-Read.is in
    rw e (refl, refl, tt)

pub enter-returns-in-Borrow-clause-enters : goal.enter-returns-in-Borrow-clause-enters
enter-returns-in-Borrow-clause-enters t c =
    let fs = c.args.forms.now in
    let e = form_term fs c.args.at c.index-forms-at.result _ c.requires.order c.requires.inside c.index-forms-at.is c.in-Borrow.is in
    rw e (refl, refl, tt)

pub enter-returns-in-Spawn-clause-enters : goal.enter-returns-in-Spawn-clause-enters
enter-returns-in-Spawn-clause-enters t c =
    let fs = c.args.forms.now in
    let e = form_term fs c.args.at c.index-forms-at.result _ c.requires.order c.requires.inside c.index-forms-at.is c.in-Spawn.is in
    let here = form_here IsSpawn fs c.args.at c.index-forms-at.result _ c.requires.inside c.index-forms-at.is c.in-Spawn.is tt in
    (rw e refl, rw e refl, (c.requires.inside, here))

pub enter-returns-in-Dup-clause-enters : goal.enter-returns-in-Dup-clause-enters
enter-returns-in-Dup-clause-enters t c =
    let fs = c.args.forms.now in
    let e = form_term fs c.args.at c.index-forms-at.result _ c.requires.order c.requires.inside c.index-forms-at.is c.in-Dup.is in
    rw e (refl, refl, tt)

pub enter-returns-in-Lock-clause-enters : goal.enter-returns-in-Lock-clause-enters
enter-returns-in-Lock-clause-enters t c =
    let fs = c.args.forms.now in
    let e = form_term fs c.args.at c.index-forms-at.result _ c.requires.order c.requires.inside c.index-forms-at.is c.in-Lock.is in
    let here = form_here (IsLock c.in-Lock.place) fs c.args.at c.index-forms-at.result _ c.requires.inside c.index-forms-at.is c.in-Lock.is refl in
    (rw e refl, rw e refl, (c.requires.inside, here))

pub enter-returns-in-Par-clause-enters : goal.enter-returns-in-Par-clause-enters
enter-returns-in-Par-clause-enters t c =
    let fs = c.args.forms.now in
    let e = form_term fs c.args.at c.index-forms-at.result _ c.requires.order c.requires.inside c.index-forms-at.is c.in-Par.is in
    let here = form_here IsPar fs c.args.at c.index-forms-at.result _ c.requires.inside c.index-forms-at.is c.in-Par.is tt in
    (rw e refl, rw e refl, (c.requires.inside, here))

pub enter-enter_items-requires : goal.enter-enter_items-requires
enter-enter_items-requires t c =
    let fs = c.args.forms.now in
    let e = form_term fs c.args.at c.index-forms-at.result _ c.requires.order c.requires.inside c.index-forms-at.is c.in-Block.is ∙ ap (λ is. block c.in-Block.lets (parts_of (term_of fs) is)) (sym (items_here fs c.args.at c.index-forms-at.result _ c.requires.inside c.index-forms-at.is c.in-Block.is)) in
    let room = subst (λ (r : Run). depth (wrapped fs c.args.frames.now.items r) ≤ vec_capacity c.args.frames.now) e c.requires.room in
    (omega (arith, c.decreases), (c.requires.order, (c.requires.inside, (c.requires.frames, room))))

pub enter-returns-in-Block-clause-enters : goal.enter-returns-in-Block-clause-enters
enter-returns-in-Block-clause-enters t c =
    let fs = c.args.forms.now in
    let e = form_term fs c.args.at c.index-forms-at.result _ c.requires.order c.requires.inside c.index-forms-at.is c.in-Block.is ∙ ap (λ is. block c.in-Block.lets (parts_of (term_of fs) is)) (sym (items_here fs c.args.at c.index-forms-at.result _ c.requires.inside c.index-forms-at.is c.in-Block.is)) in
    subst (λ (r : Run). Enters fs c.args.frames.now.items c.enter_items.new.frames.items (settle r) c.enter_items.result) (sym e) c.enter_items.ensures.enters

pub enter_item-push_reserved-requires : goal.enter_item-push_reserved-requires
enter_item-push_reserved-requires t c =
    let p = has_place c.args.forms.now c.args.frames.now.items (block c.args.left (parts_of (term_of c.args.forms.now) (drop c.args.next c.args.items.now))) (vec_capacity c.args.frames.now) (omega arith) c.requires.room in
    omega (arith, p, c.args.frames.now.ok)

pub enter_item-enter-requires : goal.enter_item-enter-requires
enter_item-enter-requires t c =
    let fs = c.args.forms.now in
    let at = get_or c.args.items.now c.args.next 0 in
    let below : at < c.args.node = item_below fs c.args.node c.args.items.now c.args.next c.requires.order c.requires.inside c.requires.items c.requires.next in
    let g = frame.Block c.args.left c.args.node (c.args.next + 1) in
    let q = block c.args.left (parts_of (term_of fs) (drop c.args.next c.args.items.now)) in
    let e = ap depth (item_row fs c.args.node c.args.left c.args.next c.args.items.now c.requires.items c.requires.next) in (
      omega (arith, c.decreases),
      (
        c.requires.order,
        (
          omega arith,
          (
            subst (AreInside (length fs)) (sym c.push_reserved.ensures.items) (inside_push (length fs) c.args.frames.now.items g c.requires.frames c.requires.inside),
            room_in fs c.args.frames.now.items c.push_reserved.new.self.items g q (term_of fs at) (vec_capacity c.args.frames.now) (vec_capacity c.push_reserved.new.self) c.push_reserved.ensures.items (omega (arith, e)) c.requires.room c.push_reserved.ensures.capacity,
          ),
        ),
      ),
    )

pub enter_item-returns-in-Waits-clause-enters : goal.enter_item-returns-in-Waits-clause-enters
enter_item-returns-in-Waits-clause-enters t c =
    let fs = c.args.forms.now in
    let left = c.args.left in
    let is = c.args.items.now in
    let inner = term_of fs (get_or is c.args.next 0) in
    let g = frame.Block left c.args.node (c.args.next + 1) in
    let q = settle (block left (parts_of (term_of fs) (drop c.args.next is))) in
    let row = ap settle (item_row fs c.args.node left c.args.next is c.requires.items c.requires.next) in
    let w = entered_waits fs c.push_reserved.new.self.items c.enter.new.frames.items (settle inner) c.enter.result c.in-Waits.focus c.enter.ensures.enters c.in-Waits.is in
    goes_in fs c.args.frames.now.items c.push_reserved.new.self.items c.enter.new.frames.items g q (settle inner) c.enter.result (entered.Waits c.in-Waits.focus)
    tt c.enter.ensures.enters c.push_reserved.ensures.items (row ∙ settle_fill (around fs g) inner w) (now_fill (around fs g) (settle inner) w) (ap waits_of c.in-Waits.is)

pub enter_item-returns-then-next-items-clause-enters : goal.enter_item-returns-then-next-items-clause-enters
enter_item-returns-then-next-items-clause-enters t c =
    let fs = c.args.forms.now in
    let left = c.args.left in
    let is = c.args.items.now in
    let inner = term_of fs (get_or is c.args.next 0) in
    let g = frame.Block left c.args.node (c.args.next + 1) in
    let q = settle (block left (parts_of (term_of fs) (drop c.args.next is))) in
    let row = ap settle (item_row fs c.args.node left c.args.next is c.requires.items c.requires.next) in
    let none : drop (c.args.next + 1) (items_at fs c.args.node) ≡ [] = ap (λ l. drop (c.args.next + 1) l) (sym c.requires.items) ∙ all_dropped is (c.args.next + 1) (omega (arith, c.if-next-items.true)) in
    goes_in fs c.args.frames.now.items c.push_reserved.new.self.items c.enter.new.frames.items g q (settle inner) c.enter.result (waits_of (entered.Ended c.in-Ended.done))
    tt c.enter.ensures.enters c.push_reserved.ensures.items (row ∙ last_stays left (term_of fs) _ inner none c.if-left-eq0.false) (last_waits left (term_of fs) _ (settle inner) none c.if-left-eq0.false) (ap waits_of c.in-Ended.is)

pub enter_item-returns-then-left-eq0-clause-enters : goal.enter_item-returns-then-left-eq0-clause-enters
enter_item-returns-then-left-eq0-clause-enters t c =
    let fs = c.args.forms.now in
    let left = c.args.left in
    let is = c.args.items.now in
    let inner = term_of fs (get_or is c.args.next 0) in
    let g = frame.Block left c.args.node (c.args.next + 1) in
    let q = settle (block left (parts_of (term_of fs) (drop c.args.next is))) in
    let row = ap settle (item_row fs c.args.node left c.args.next is c.requires.items c.requires.next) in
    let o = entered_over fs c.push_reserved.new.self.items c.enter.new.frames.items (settle inner) c.enter.result c.in-Ended.done c.enter.ensures.enters c.in-Ended.is in
    let none : drop (c.args.next + 1) (items_at fs c.args.node) ≡ [] = ap (λ l. drop (c.args.next + 1) l) (sym c.requires.items) ∙ all_dropped is (c.args.next + 1) (omega (arith, c.if-next-items.true)) in
    (row ∙ last_ends left (term_of fs) _ inner c.in-Ended.done none c.if-left-eq0.true o.0, c.leave_top.ensures.frames c.args.frames.now.items g (o.1 ∙ c.push_reserved.ensures.items))

pub enter_item-returns-then-is_temporary-clause-enters : goal.enter_item-returns-then-is_temporary-clause-enters
enter_item-returns-then-is_temporary-clause-enters t c =
    let fs = c.args.forms.now in
    let left = c.args.left in
    let is = c.args.items.now in
    let inner = term_of fs (get_or is c.args.next 0) in
    let g = frame.Block left c.args.node (c.args.next + 1) in
    let q = settle (block left (parts_of (term_of fs) (drop c.args.next is))) in
    let row = ap settle (item_row fs c.args.node left c.args.next is c.requires.items c.requires.next) in
    let o = entered_over fs c.push_reserved.new.self.items c.enter.new.frames.items (settle inner) c.enter.result c.in-Ended.done c.enter.ensures.enters c.in-Ended.is in
    let some : c.args.next + 1 < length is = omega (arith, c.requires.next, c.if-next-items.false) in
    let more = ap (λ l. drop (c.args.next + 1) l) (sym c.requires.items) ∙ at_drop is (c.args.next + 1) 0 some in
    let t = sym c.is_temporary.ensures ∙ c.if-is_temporary.true in
    goes_in fs c.args.frames.now.items c.push_reserved.new.self.items c.enter.new.frames.items g q (settle inner) c.enter.result (waits_of (entered.Ended c.in-Ended.done))
    tt c.enter.ensures.enters c.push_reserved.ensures.items (row ∙ more_stays left (term_of fs) _ _ _ inner c.in-Ended.done more o.0 t)
    (subst (λ (r : Run). now (fill (around fs g) r) ≡ going) (sym o.0) (more_waits left (term_of fs) _ _ _ c.in-Ended.done more t)) (ap waits_of c.in-Ended.is)

pub enter_item-returns-else-is_temporary-clause-enters : goal.enter_item-returns-else-is_temporary-clause-enters
enter_item-returns-else-is_temporary-clause-enters t c =
    let fs = c.args.forms.now in
    let left = c.args.left in
    let is = c.args.items.now in
    let inner = term_of fs (get_or is c.args.next 0) in
    let g = frame.Block left c.args.node (c.args.next + 1) in
    let q = settle (block left (parts_of (term_of fs) (drop c.args.next is))) in
    let row = ap settle (item_row fs c.args.node left c.args.next is c.requires.items c.requires.next) in
    let o = entered_over fs c.push_reserved.new.self.items c.enter.new.frames.items (settle inner) c.enter.result c.in-Ended.done c.enter.ensures.enters c.in-Ended.is in
    let some : c.args.next + 1 < length is = omega (arith, c.requires.next, c.if-next-items.false) in
    let more = ap (λ l. drop (c.args.next + 1) l) (sym c.requires.items) ∙ at_drop is (c.args.next + 1) 0 some in
    let t = sym c.is_temporary.ensures ∙ c.if-is_temporary.false in (
      row ∙ more_vanishes left (term_of fs) _ _ _ inner c.in-Ended.done more o.0 t ∙ ap (λ l. settle (block left (parts_of (term_of fs) (drop (c.args.next + 1) l)))) (sym c.requires.items),
      c.leave_top-in-Ended.ensures.frames c.args.frames.now.items g (o.1 ∙ c.push_reserved.ensures.items),
    )

pub enter_items-enter_item-requires : goal.enter_items-enter_item-requires
enter_items-enter_item-requires t c =
    let fs = c.args.forms.now in
    let is = c.items_of-items.result.now in
    let e = ap (λ l. depth_in (parts_of (term_of fs) (drop c.args.from l))) c.items_of-items.ensures in (
      omega (arith, c.decreases),
      (
        c.requires.order,
        (
          c.requires.inside,
          (
            c.items_of-items.ensures,
            (
              c.each-test.true,
              (
                c.each.invariant.inside,
                room_less fs c.args.frames.now.items c.each.frames.items (block c.args.left (parts_of (term_of fs) (drop c.args.from (items_at fs c.args.node)))) (block c.args.left (parts_of (term_of fs) (drop c.each.next is))) (vec_capacity c.args.frames.now) (vec_capacity c.each.frames)
                    c.each.invariant.frames (omega (arith, e, c.each.invariant.room)) c.requires.room c.each.invariant.capacity,
              ),
            ),
          ),
        ),
      ),
    )

pub enter_items-each-preserved : goal.enter_items-each-preserved
enter_items-each-preserved t c =
    let fs = c.args.forms.now in
    let is = c.items_of-items.result.now in
    let S : ℕ → Run = λ k. settle (block c.args.left (parts_of (term_of fs) (drop k is))) in
    let o = goes_by fs c.each.frames.items c.enter_item.new.frames.items (S c.each.next) (S (c.each.next + 1)) c.enter_item.result c.enter_item.ensures.enters c.in-None.is in
    record {
      frames = o.1 ∙ c.each.invariant.frames;
      settles = c.each.invariant.settles ∙ o.0;
      inside = c.enter_item.ensures.frames;
      capacity = c.enter_item.ensures.capacity ∙ c.each.invariant.capacity;
      room = omega (arith, fewer_shallow (term_of fs) is c.each.next c.each-test.true, c.each.invariant.room);
    }

pub enter_items-end_items-requires-clause-room : goal.enter_items-end_items-requires-clause-room
enter_items-end_items-requires-clause-room t c =
    let fs = c.args.forms.now in
    let p = has_place fs c.args.frames.now.items (block c.args.left (parts_of (term_of fs) (drop c.args.from (items_at fs c.args.node)))) (vec_capacity c.args.frames.now) (omega arith) c.requires.room in
    let e = ap length c.each.invariant.frames in
    omega (arith, p, e, c.each.frames.ok, c.each.invariant.capacity)

pub enter_items-end_items-requires-clause-last : goal.enter_items-end_items-requires-clause-last
enter_items-end_items-requires-clause-last t c =
    let e = ap length c.items_of-items.ensures in
    all_dropped (items_at c.args.forms.now c.args.node) (length c.items_of-items.result.now) (omega (arith, e))

pub enter_items-returns-clause-enters : goal.enter_items-returns-clause-enters
enter_items-returns-clause-enters t c =
    let fs = c.args.forms.now in
    let is = c.items_of-items.result.now in
    let e = ap (λ l. settle (block c.args.left (parts_of (term_of fs) (drop c.args.from l)))) (sym c.items_of-items.ensures)
    ∙ c.each.invariant.settles ∙ ap (λ l. settle (block c.args.left (parts_of (term_of fs) l))) (all_dropped is c.each.next c.each-test.false) in
    subst (λ (r : Run). Enters fs c.args.frames.now.items c.end_items.new.frames.items r c.end_items.result) (sym e)
    (subst (λ (gs : List Frame). Enters fs gs c.end_items.new.frames.items (settle (block c.args.left (last unit_c))) c.end_items.result) c.each.invariant.frames c.end_items.ensures.enters)
