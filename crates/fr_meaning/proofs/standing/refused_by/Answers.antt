use Rattle.std.proofs.Common.{Some, None, List, refl, sym, ap, ◌∙◌, subst, arith}
use Rattle.std.specs.Prelude.{is_some, option_map}
use Rattle.fr_plain.specs.Whole.{refused_names}
use Rattle.fr_meaning.specs.Beside.{beside_of}
use Rattle.fr_meaning.specs.PoolView.{error_of, takes_for}
use Rattle.fr_shared.specs.Places.{place_of}
use Rattle.fr_meaning.specs.Running.{plain_of}
use Rattle.fr_meaning.specs.declared.frame.Frame.{Frame}
use Rattle.fr_meaning.specs.Next.{IsNext, next_takes}
use Rattle.fr_meaning.proofs.StandLemmas.{takes_kind, refused_nowhere, refused_ended, refused_there}
use Rattle.fr_meaning.proofs.StepFacts.{place_inside, given_place}
use Rattle.fr_meaning.proofs.ThreadLists.{well_at}
use Rattle.fr_meaning.proofs.standing.refused_by.Goals as goal

pub returns-in_default : goal.returns-in_default
returns-in_default c = λ fs a s. (
    let r = c.args.running.now in
    sym (refused_nowhere fs r.threads.items (beside_of r.common) r.output.items c.args.thread c.args.fresh.now (ap (λ ns. place_of ns c.args.thread) (sym c.requires.numbers) ∙ sym c.at.ensures.place ∙ c.in_default.is)))

pub index-standing-requires : goal.index-standing-requires
index-standing-requires c =
    let r = c.args.running.now in
    let inside = place_inside r.threads.items c.args.thread c.in-Some.at (ap (λ ns. place_of ns c.args.thread) (sym c.requires.numbers) ∙ sym c.at.ensures.place ∙ c.in-Some.is) in
    omega (arith, inside, r.threads.ok)

pub returns-then-is_over : goal.returns-then-is_over
returns-then-is_over c = λ fs a s. (
    let r = c.args.running.now in
    sym (refused_ended fs r.threads.items (beside_of r.common) r.output.items c.args.thread c.args.fresh.now c.in-Some.at c.index-standing.result.now (ap (λ ns. place_of ns c.args.thread) (sym c.requires.numbers) ∙ sym c.at.ensures.place ∙ c.in-Some.is) c.index-standing.ensures (sym c.is_over.ensures ∙ c.if-is_over.true)))

pub returns-in-Some-wait_of : goal.returns-in-Some-wait_of
returns-in-Some-wait_of c = λ fs a s. (
    let r = c.args.running.now in
    let x = c.index-standing.result.now in
    let place = (ap (λ ns. place_of ns c.args.thread) (sym c.requires.numbers) ∙ sym c.at.ensures.place ∙ c.in-Some.is) in
    let well = well_at fs r.threads.items c.in-Some.at x (place_inside r.threads.items c.args.thread c.in-Some.at place) c.index-standing.ensures s.well in
    let going = sym c.is_over.ensures ∙ c.if-is_over.false in
    let comes = subst (λ (gs : List Frame). IsNext x.focus gs c.next_of-next.result) c.deref.ensures.value c.next_of-next.ensures in
    sym (refused_there fs r.threads.items (beside_of r.common) r.output.items c.args.thread c.args.fresh.now c.in-Some.at x c.next_of-next.result (Some c.in-Some-wait_of.wait) a well place c.index-standing.ensures going comes (sym (c.wait_of.ensures fs) ∙ c.in-Some-wait_of.is)))

pub returns : goal.returns
returns c = λ fs a s. (
    let r = c.args.running.now in
    let x = c.index-standing.result.now in
    let place = (ap (λ ns. place_of ns c.args.thread) (sym c.requires.numbers) ∙ sym c.at.ensures.place ∙ c.in-Some.is) in
    let well = well_at fs r.threads.items c.in-Some.at x (place_inside r.threads.items c.args.thread c.in-Some.at place) c.index-standing.ensures s.well in
    let going = sym c.is_over.ensures ∙ c.if-is_over.false in
    let comes = subst (λ (gs : List Frame). IsNext x.focus gs c.next_of-next.result) c.deref.ensures.value c.next_of-next.ensures in
    c.refused_names.ensures (plain_of fs r) (λ u. given_place fs r.threads.items u ∙ ap (λ ns. is_some (place_of ns u)) (sym s.numbers)) refl
    ∙ ap (λ k. option_map error_of (refused_names (plain_of fs r) (takes_for k) c.args.fresh.now)) c.need_of_next.ensures
    ∙ ap (λ k. option_map error_of (refused_names (plain_of fs r) k c.args.fresh.now)) (takes_kind (next_takes c.next_of-next.result))
    ∙ sym (refused_there fs r.threads.items (beside_of r.common) r.output.items c.args.thread c.args.fresh.now c.in-Some.at x c.next_of-next.result None a well place c.index-standing.ensures going comes (sym (c.wait_of.ensures fs) ∙ c.in_default-wait_of.is)))
