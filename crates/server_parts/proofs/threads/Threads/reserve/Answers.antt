use Rattle.std.proofs.Common.{◌<◌, ◌^◌, arith}
use Rattle.server_parts.proofs.StandLemmas.{sets_freed, all_free}
use Rattle.server_parts.proofs.threads.Threads.reserve.Goals as goal

pub invariant_of-self : goal.invariant_of-self
invariant_of-self c =
    let below : c.number-number.result < 2 ^ 40 = omega (arith, c.number-number.ensures.number, c.number-number.ensures.few) in
    sets_freed c.number-number.result c.self.invariant below c.reserve.ensures.runnable c.reserve.ensures.waiting c.reserve.ensures.movable

pub invariant_of-self-2 : goal.invariant_of-self-2
invariant_of-self-2 c =
    let below : c.number-number.result < 2 ^ 40 = omega (arith, c.number-number.ensures.number, c.number-number.ensures.few) in
    all_free c.number-number.result c.reserve-2.result c.self.invariant below c.in_ok-reserve.ensures.runnable_place c.in_ok-reserve.ensures.waiting_place c.in_ok-reserve.ensures.movable_place
    c.reserve-2.ensures.place c.reserve-2.ensures.refused
