use Rattle.std.proofs.Common.{sym, ap, ◌∙◌, arith}
use Rattle.fr_shared.specs.Places.{place_of}
use Rattle.fr_meaning.proofs.StandLemmas.{result_nowhere, result_there}
use Rattle.fr_meaning.proofs.StepFacts.{place_inside}
use Rattle.fr_meaning.proofs.standing.has_ended.Goals as goal

pub index-requires : goal.index-requires
index-requires c =
    let r = c.args.running.now in
    let inside = place_inside r.threads.items c.args.thread c.in-Some.place (ap (λ ns. place_of ns c.args.thread) (sym c.requires.numbers) ∙ sym c.at.ensures.place ∙ c.in-Some.is) in
    omega (arith, inside, r.threads.ok)

pub returns-in-Some : goal.returns-in-Some
returns-in-Some c = λ fs. (
    let r = c.args.running.now in
    let place = ap (λ ns. place_of ns c.args.thread) (sym c.requires.numbers) ∙ sym c.at.ensures.place ∙ c.in-Some.is in
    c.has_result.ensures ∙ sym (result_there fs r.threads.items c.args.thread c.in-Some.place c.index.result.now place c.index.ensures))

pub returns-in-None : goal.returns-in-None
returns-in-None c = λ fs. sym (result_nowhere fs c.args.running.now.threads.items c.args.thread (ap (λ ns. place_of ns c.args.thread) (sym c.requires.numbers) ∙ sym c.at.ensures.place ∙ c.in-None.is))
