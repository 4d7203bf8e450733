use Rattle.std.proofs.Common.{arith, sym, ap, subst, ◌∙◌}
use Rattle.fr_plain.specs.Run.{settle}
use Rattle.fr_meaning.specs.declared.frame.Focus.{Focus}
use Rattle.fr_forms.specs.FormTerms.{root_of}
use Rattle.fr_meaning.specs.FrameTerms.{wrapped, focus_run, HasMadeWay}
use Rattle.fr_meaning.proofs.FrameLemmas.{enters_first, first_way}
use Rattle.fr_meaning.proofs.ThreadLemmas.{settle_kept}
use Rattle.fr_meaning.proofs.thread.main_thread.Goals as goal

pub returns-clause-well : goal.returns-clause-well
returns-clause-well c =
    let fs = c.args.forms.now in
    let p = root_of fs in
    let x = c.enter in
    let e = ap (λ (f : Focus). wrapped fs x.new.frames.items (focus_run fs f)) c.focus_in-focus.ensures ∙ enters_first fs c.args.frames.items x.new.frames.items (settle p) x.result c.requires.none x.ensures.enters in
    let kept = settle_kept p (wrapped fs x.new.frames.items (focus_run fs c.focus_in-focus.result)) p e (omega arith) in
    record {
      frames = x.ensures.frames;
      way = subst (λ (f : Focus). HasMadeWay fs x.new.frames.items f) (sym c.focus_in-focus.ensures) (first_way fs c.args.frames.items x.new.frames.items (settle p) x.result c.requires.none x.ensures.enters);
      settled = kept.0;
      depth = omega (arith, kept.1, c.requires.depth);
      room = omega (arith, x.ensures.capacity, c.requires.room);
    }
