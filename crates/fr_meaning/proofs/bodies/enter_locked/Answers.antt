use Rattle.std.proofs.Common.{◌<◌, length, refl, sym, ap, ◌∙◌, subst, arith, vec_capacity}
use Rattle.fr_plain.specs.Resolve.{dropping}
use Rattle.fr_plain.specs.Run.{locked, settle}
use Rattle.fr_forms.specs.Depths.{depth}
use Rattle.fr_forms.specs.FormTerms.{term_of}
use Rattle.fr_forms.specs.declared.forms.Form.TheVariants as form
use Rattle.fr_forms.proofs.FormLemmas.{form_term, form_below}
use Rattle.fr_meaning.specs.declared.frame.Focus.{Focus}
use Rattle.fr_meaning.specs.declared.frame.TheConstants.{FRAMES}
use Rattle.fr_meaning.specs.declared.frame.Frame.TheVariants as frame
use Rattle.fr_meaning.specs.FrameTerms.{wrapped, all_around, focus_run, AreInside, HasMadeWay}
use Rattle.fr_meaning.proofs.BodyLemmas.{lock_entered, same_lock}
use Rattle.fr_meaning.proofs.ContextLemmas.{depth_wrap}
use Rattle.fr_meaning.proofs.FrameLemmas.{inside_push, has_place, room_in}
use Rattle.fr_meaning.proofs.ThreadLemmas.{settle_kept}
use Rattle.fr_meaning.proofs.ThreadLists.{on_room}
use Rattle.fr_meaning.proofs.bodies.enter_locked.Goals as goal

pub push_reserved-requires : goal.push_reserved-requires
push_reserved-requires c =
    let fs = c.args.forms.now in
    let term = form_term fs c.args.node c.index-forms-node.result (form.Lock c.in-Lock.field-0 c.in-Lock.body c.in-Lock.drops) c.requires.order c.requires.inside c.index-forms-node.is c.in-Lock.is in
    let p = has_place fs c.args.thread.now.frames.items (term_of fs c.args.node) FRAMES (omega (arith, ap depth term)) c.requires.room in
    omega (arith, p, c.requires.capacity, c.args.thread.now.frames.ok)

pub enter_dropping-requires-clause-part : goal.enter_dropping-requires-clause-part
enter_dropping-requires-clause-part c =
    let below : c.in-Lock.body < c.args.node = form_below c.args.forms.now c.args.node c.index-forms-node.result (form.Lock c.in-Lock.field-0 c.in-Lock.body c.in-Lock.drops) c.requires.order c.requires.inside c.index-forms-node.is c.in-Lock.is in
    omega (arith, below, c.requires.inside)

pub enter_dropping-requires-clause-frames : goal.enter_dropping-requires-clause-frames
enter_dropping-requires-clause-frames c =
    let n = length c.args.forms.now in
    subst (AreInside n) (sym c.push_reserved.ensures.items) (inside_push n c.args.thread.now.frames.items frame.Locked c.requires.frames tt)

pub enter_dropping-requires-clause-room : goal.enter_dropping-requires-clause-room
enter_dropping-requires-clause-room c =
    let fs = c.args.forms.now in
    let term = form_term fs c.args.node c.index-forms-node.result (form.Lock c.in-Lock.field-0 c.in-Lock.body c.in-Lock.drops) c.requires.order c.requires.inside c.index-forms-node.is c.in-Lock.is in
    let r = dropping c.in-Lock.drops (term_of fs c.in-Lock.body) in
    let room = room_in fs c.args.thread.now.frames.items c.push_reserved.new.self.items frame.Locked (term_of fs c.args.node) r FRAMES FRAMES c.push_reserved.ensures.items (omega (arith, ap depth term)) c.requires.room refl in
    omega (arith, room, c.push_reserved.ensures.capacity, c.requires.capacity)

pub returns-clause-run : goal.returns-clause-run
returns-clause-run c = λ w q e. (
    let fs = c.args.forms.now in
    let term = form_term fs c.args.node c.index-forms-node.result (form.Lock c.in-Lock.field-0 c.in-Lock.body c.in-Lock.drops) c.requires.order c.requires.inside c.index-forms-node.is c.in-Lock.is in
    let r = dropping c.in-Lock.drops (term_of fs c.in-Lock.body) in
    let x = c.enter_dropping in
    let same = same_lock c.in-Lock.field-0 w r q (sym term ∙ e) in
    ap (λ (f : Focus). wrapped fs x.new.frames.items (focus_run fs f)) c.focus_in-thread.ensures ∙ (lock_entered fs c.args.thread.now.frames.items c.push_reserved.new.self.items x.new.frames.items r x.result x.ensures.enters c.push_reserved.ensures.items).0
    ∙ ap (λ s. settle (wrapped fs c.args.thread.now.frames.items (locked s))) same)

pub returns-clause-well : goal.returns-clause-well
returns-clause-well c =
    let fs = c.args.forms.now in
    let term = form_term fs c.args.node c.index-forms-node.result (form.Lock c.in-Lock.field-0 c.in-Lock.body c.in-Lock.drops) c.requires.order c.requires.inside c.index-forms-node.is c.in-Lock.is in
    let gs = c.args.thread.now.frames.items in
    let r = dropping c.in-Lock.drops (term_of fs c.in-Lock.body) in
    let x = c.enter_dropping in
    let l = lock_entered fs gs c.push_reserved.new.self.items x.new.frames.items r x.result x.ensures.enters c.push_reserved.ensures.items in
    let e = ap (λ (f : Focus). wrapped fs x.new.frames.items (focus_run fs f)) c.focus_in-thread.ensures ∙ l.0 in
    let p = wrapped fs gs (locked r) in
    let kept = settle_kept p (wrapped fs x.new.frames.items (focus_run fs c.focus_in-thread.result)) p e (omega arith) in
    let low = depth_wrap (all_around fs gs) (locked r) (term_of fs c.args.node) (omega (arith, ap depth term)) in
    record {
      frames = x.ensures.frames;
      way = subst (λ (f : Focus). HasMadeWay fs x.new.frames.items f) (sym c.focus_in-thread.ensures) l.1;
      settled = kept.0;
      depth = omega (arith, kept.1, low, c.requires.room);
      room = on_room c.args.thread.now.stage (vec_capacity x.new.frames) c.requires.on (omega (arith, x.ensures.capacity, c.push_reserved.ensures.capacity, c.requires.capacity));
    }
