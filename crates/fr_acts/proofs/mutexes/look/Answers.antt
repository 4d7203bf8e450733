use Rattle.std.proofs.Common.{sym, ap, ◌∙◌, arith}
use Rattle.fr_acts.specs.Acting.{state, spot_of}
use Rattle.fr_acts.specs.Behind.{spots_of}
use Rattle.fr_acts.proofs.MutexLemmas.{look_stops, after_all}
use Rattle.fr_acts.proofs.mutexes.look.Goals as goal

pub returns-in_default : goal.returns-in_default
returns-in_default c =
    sym (look_stops (state c.args.thread c.args.slots.now c.args.heap.now.heap) c.args.place c.stars.star (spot_of c.stars.spot) c.value_there.result c.stars.invariant c.value_there.ensures (ap after_all c.in_default.is) (omega (arith, c.stars-test.true)))

pub returns-in-None : goal.returns-in-None
returns-in-None c =
    let none = ap after_all c.in-Some.is ∙ sym c.next_spot.ensures ∙ ap spots_of c.in-None.is in
    sym (look_stops (state c.args.thread c.args.slots.now c.args.heap.now.heap) c.args.place c.stars.star (spot_of c.stars.spot) c.value_there.result c.stars.invariant c.value_there.ensures none (omega (arith, c.stars-test.true)))
