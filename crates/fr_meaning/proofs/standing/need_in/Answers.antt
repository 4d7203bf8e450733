use Rattle.std.proofs.Common.{List, sym, ap, ◌∙◌, subst, arith}
use Rattle.fr_shared.specs.Places.{place_of}
use Rattle.fr_meaning.specs.Beside.{beside_of}
use Rattle.fr_meaning.specs.declared.frame.Frame.{Frame}
use Rattle.fr_meaning.specs.Next.{IsNext}
use Rattle.fr_meaning.proofs.StandLemmas.{need_nowhere, need_ended, need_there}
use Rattle.fr_meaning.proofs.StepFacts.{place_inside}
use Rattle.fr_meaning.proofs.ThreadLists.{well_at}
use Rattle.fr_meaning.proofs.standing.need_in.Goals as goal

pub returns-in_default : goal.returns-in_default
returns-in_default c = λ fs a s. (
    let r = c.args.running.now in
    sym (need_nowhere fs r.threads.items (beside_of r.common) r.output.items c.args.thread (ap (λ ns. place_of ns c.args.thread) (sym c.requires.numbers) ∙ sym c.at.ensures.place ∙ c.in_default.is)))

pub index-standing-requires : goal.index-standing-requires
index-standing-requires c =
    let r = c.args.running.now in
    let inside = place_inside r.threads.items c.args.thread c.in-Some.at (ap (λ ns. place_of ns c.args.thread) (sym c.requires.numbers) ∙ sym c.at.ensures.place ∙ c.in-Some.is) in
    omega (arith, inside, r.threads.ok)

pub returns-then-is_over : goal.returns-then-is_over
returns-then-is_over c = λ fs a s. (
    let r = c.args.running.now in
    sym (need_ended fs r.threads.items (beside_of r.common) r.output.items c.args.thread c.in-Some.at c.index-standing.result.now (ap (λ ns. place_of ns c.args.thread) (sym c.requires.numbers) ∙ sym c.at.ensures.place ∙ c.in-Some.is) c.index-standing.ensures (sym c.is_over.ensures ∙ c.if-is_over.true)))

pub returns : goal.returns
returns c = λ fs a s. (
    let r = c.args.running.now in
    let x = c.index-standing.result.now in
    let place = (ap (λ ns. place_of ns c.args.thread) (sym c.requires.numbers) ∙ sym c.at.ensures.place ∙ c.in-Some.is) in
    let well = well_at fs r.threads.items c.in-Some.at x (place_inside r.threads.items c.args.thread c.in-Some.at place) c.index-standing.ensures s.well in
    let going = sym c.is_over.ensures ∙ c.if-is_over.false in
    let comes = subst (λ (gs : List Frame). IsNext x.focus gs c.next_of.result) c.deref.ensures.value c.next_of.ensures in
    sym (need_there fs r.threads.items (beside_of r.common) r.output.items c.args.thread c.in-Some.at x c.next_of.result c.need_of_next.result a well place c.index-standing.ensures going comes c.need_of_next.ensures))
