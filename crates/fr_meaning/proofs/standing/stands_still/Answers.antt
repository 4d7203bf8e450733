use Rattle.std.proofs.Common.{List, sym, ◌∙◌, subst}
use Rattle.fr_meaning.specs.declared.frame.Frame.{Frame}
use Rattle.fr_meaning.specs.Next.{IsNext}
use Rattle.fr_meaning.specs.Running.{plain_of}
use Rattle.fr_meaning.proofs.StandLemmas.{still_waits}
use Rattle.fr_meaning.proofs.ThreadLists.{well_at}
use Rattle.fr_meaning.proofs.standing.stands_still.Goals as goal

pub returns : goal.returns
returns c = λ fs i a s lt is. (
    let r = c.args.running.now in
    let x = c.args.thread.now in
    let well = well_at fs r.threads.items i x lt is s.well in
    let going = sym c.is_over.ensures ∙ c.if-is_over.false in
    let comes = subst (λ (gs : List Frame). IsNext x.focus gs c.next_of.result) c.deref.ensures.value c.next_of.ensures in
    c.is_some.ensures ∙ sym (still_waits fs (plain_of fs r) x c.next_of.result c.wait_of.result a well going comes (sym (c.wait_of.ensures fs))))
