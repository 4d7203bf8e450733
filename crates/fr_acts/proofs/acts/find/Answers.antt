use Rattle.std.proofs.Common.{Some, sym, ap, ◌∙◌, arith}
use Rattle.fr_plain.specs.State.{led, Reached}
use Rattle.fr_acts.specs.Acting.{state, spot_of}
use Rattle.fr_acts.proofs.ActLemmas.{stops, reached_none}
use Rattle.fr_acts.proofs.acts.find.Goals as goal

pub returns-in_default-clause-leads : goal.returns-in_default-clause-leads
returns-in_default-clause-leads c =
    let r : Reached = record { spot = spot_of c.stars.spot; passed = c.stars.labels.items } in
    stops (state c.args.thread c.args.slots.now c.args.heap.now.heap) c.args.place c.stars.star r c.stars.invariant.leads (ap (led r) (sym c.value_there.ensures ∙ c.in_default.is)) (omega (arith, c.stars-test.true))

pub returns-in-None-clause-leads : goal.returns-in-None-clause-leads
returns-in-None-clause-leads c =
    let r : Reached = record { spot = spot_of c.stars.spot; passed = c.stars.labels.items } in
    let none = reached_none (led r (Some c.in-Some.value)) c.lead.new.labels.items c.lead.result c.lead.ensures.leads c.in-None.is in
    stops (state c.args.thread c.args.slots.now c.args.heap.now.heap) c.args.place c.stars.star r c.stars.invariant.leads (ap (led r) (sym c.value_there.ensures ∙ c.in-Some.is) ∙ none) (omega (arith, c.stars-test.true))
