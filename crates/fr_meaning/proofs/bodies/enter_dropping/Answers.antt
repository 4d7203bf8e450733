use Rattle.std.proofs.Common.{sym, ap, subst, arith}
use Rattle.fr_plain.specs.Run.{Run, settle}
use Rattle.fr_forms.specs.Depths.{depth}
use Rattle.fr_forms.specs.FormTerms.{term_of}
use Rattle.fr_meaning.specs.FrameTerms.{Enters, wrapped}
use Rattle.fr_meaning.proofs.BodyLemmas.{dropping_none, dropping_more}
use Rattle.fr_meaning.proofs.bodies.enter_dropping.Goals as goal

pub enter-requires-clause-room : goal.enter-requires-clause-room
enter-requires-clause-room c =
    let fs = c.args.forms.now in
    let e = ap (λ r. depth (wrapped fs c.args.frames.now.items r)) (dropping_none c.args.drops (term_of fs c.args.part) c.if-drops-eq0.true) in
    omega (arith, e, c.requires.room)

pub returns-then-drops-eq0-clause-enters : goal.returns-then-drops-eq0-clause-enters
returns-then-drops-eq0-clause-enters c =
    let fs = c.args.forms.now in
    subst (λ (r : Run). Enters fs c.args.frames.now.items c.enter.new.frames.items (settle r) c.enter.result) (sym (dropping_none c.args.drops (term_of fs c.args.part) c.if-drops-eq0.true)) c.enter.ensures.enters

pub enter_last-requires-clause-room : goal.enter_last-requires-clause-room
enter_last-requires-clause-room c =
    let fs = c.args.forms.now in
    let e = ap (λ r. depth (wrapped fs c.args.frames.now.items r)) (dropping_more c.args.drops (term_of fs c.args.part) c.if-drops-eq0.false) in
    omega (arith, e, c.requires.room)

pub returns-clause-enters : goal.returns-clause-enters
returns-clause-enters c =
    let fs = c.args.forms.now in
    subst (λ (r : Run). Enters fs c.args.frames.now.items c.enter_last.new.frames.items (settle r) c.enter_last.result) (sym (dropping_more c.args.drops (term_of fs c.args.part) c.if-drops-eq0.false)) c.enter_last.ensures.enters
