use Rattle.std.proofs.Common.{List, arith, sym, ap, subst, ◌∙◌}
use Rattle.fr_plain.specs.Run.{settle}
use Rattle.fr_forms.specs.Depths.{depth}
use Rattle.fr_forms.specs.FormTerms.{body_run, term_of}
use Rattle.fr_meaning.specs.declared.frame.Frame.{Frame}
use Rattle.fr_meaning.specs.declared.frame.Focus.{Focus}
use Rattle.fr_meaning.specs.FrameTerms.{wrapped, focus_run, HasMadeWay, AreInside}
use Rattle.fr_meaning.proofs.FrameLemmas.{enters_first, first_way}
use Rattle.fr_meaning.proofs.ThreadLemmas.{settle_kept}
use Rattle.fr_meaning.proofs.bodies.start_body.Goals as goal

pub enter_last-requires-clause-frames : goal.enter_last-requires-clause-frames
enter_last-requires-clause-frames c = subst (AreInside _) (sym c.requires.empty) tt

pub enter_last-requires-clause-room : goal.enter_last-requires-clause-room
enter_last-requires-clause-room c =
    let e = ap (λ (gs : List Frame). depth (wrapped c.args.forms.now gs (body_run (term_of c.args.forms.now) c.args.body.now))) c.requires.empty in
    omega (arith, e, c.requires.depth, c.requires.room)

pub returns-clause-run : goal.returns-clause-run
returns-clause-run c =
    let fs = c.args.forms.now in
    let p = body_run (term_of fs) c.args.body.now in
    let x = c.enter_last in
    ap (λ (f : Focus). wrapped fs x.new.frames.items (focus_run fs f)) c.focus_in-focus.ensures ∙ enters_first fs c.args.frames.items x.new.frames.items (settle p) x.result c.requires.empty x.ensures.enters

pub returns-clause-well : goal.returns-clause-well
returns-clause-well c =
    let fs = c.args.forms.now in
    let p = body_run (term_of fs) c.args.body.now in
    let x = c.enter_last in
    let e = ap (λ (f : Focus). wrapped fs x.new.frames.items (focus_run fs f)) c.focus_in-focus.ensures ∙ enters_first fs c.args.frames.items x.new.frames.items (settle p) x.result c.requires.empty x.ensures.enters in
    let kept = settle_kept p (wrapped fs x.new.frames.items (focus_run fs c.focus_in-focus.result)) p e (omega arith) in
    record {
      frames = x.ensures.frames;
      way = subst (λ (f : Focus). HasMadeWay fs x.new.frames.items f) (sym c.focus_in-focus.ensures) (first_way fs c.args.frames.items x.new.frames.items (settle p) x.result c.requires.empty x.ensures.enters);
      settled = kept.0;
      depth = omega (arith, kept.1, c.requires.depth);
      room = omega (arith, x.ensures.capacity, c.requires.room);
    }
