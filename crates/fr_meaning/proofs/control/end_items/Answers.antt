use Rattle.std.proofs.Common.{length, drop, sym, ap, ◌∙◌, subst}
use Rattle.fr_plain.specs.Run.{block, last, settle}
use Rattle.fr_meaning.specs.declared.frame.Frame.TheVariants as frame
use Rattle.fr_meaning.specs.Contexts.{fill}
use Rattle.fr_forms.specs.FormTerms.{term_of, items_at}
use Rattle.fr_meaning.specs.DoneTerms.{over}
use Rattle.fr_meaning.specs.FrameTerms.{around_items, AreInside}
use Rattle.fr_meaning.proofs.FrameLemmas.{inside_push, settle_over, last_stays, last_waits, stays}
use Rattle.fr_meaning.proofs.control.end_items.Goals as goal

pub returns-clause-enters : goal.returns-clause-enters
returns-clause-enters c =
    let fs = c.args.forms.now in
    let js = drop c.args.next (items_at fs c.args.node) in
    let e = ap (λ l. settle (fill (around_items c.args.left (term_of fs) l) (over c.args.done))) (sym c.requires.last)
    ∙ last_stays c.args.left (term_of fs) js (over c.args.done) c.requires.last c.if-left-eq0.false ∙ ap (fill (around_items c.args.left (term_of fs) js)) (settle_over c.args.done) in
    stays fs c.args.frames.now.items c.stay.new.frames.items (frame.Block c.args.left c.args.node c.args.next) c.args.done (settle (block c.args.left (last (over c.args.done)))) c.stay.result
    tt c.stay.ensures.frames c.stay.ensures.result e (last_waits c.args.left (term_of fs) js (over c.args.done) c.requires.last c.if-left-eq0.false)

pub returns-clause-frames : goal.returns-clause-frames
returns-clause-frames c =
    let n = length c.args.forms.now in
    subst (AreInside n) (sym c.stay.ensures.frames) (inside_push n c.args.frames.now.items (frame.Block c.args.left c.args.node c.args.next) c.requires.frames c.requires.inside)
