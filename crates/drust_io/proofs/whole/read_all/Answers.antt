use Rattle.std.proofs.Common.{◌≡◌, ◌+◌, ◌≤◌, take, length, arith, length-take}
use Rattle.drust_io.proofs.FlowLemmas.{some_off, most_off}
use Rattle.drust_io.proofs.whole.read_all.Goals as goal

pub returns-then-n-left-clause-too_long : goal.returns-then-n-left-clause-too_long
returns-then-n-left-clause-too_long g c = λ _.
    let front = take c.in-Ok.n c.read.new.room in
    let all : length c.loop-n.bytes.items + length front ≡ c.args.limit + 1 = omega (arith, length-take c.in-Ok.n c.read.new.room, c.in-Ok.ensures.within, length-take (c.min-want.result + 1) c.loop-n.room, c.read.auto.room) in
    some_off _ _ _ _ _ _ all c.loop-n.invariant.so_far c.in-Ok.ensures.bytes

pub returns-then-n-left-clause-took : goal.returns-then-n-left-clause-took
returns-then-n-left-clause-took g c =
    let front = take c.in-Ok.n c.read.new.room in
    let all : length c.loop-n.bytes.items + length front ≤ c.args.limit + 1 = omega (arith, length-take c.in-Ok.n c.read.new.room, c.in-Ok.ensures.within, length-take (c.min-want.result + 1) c.loop-n.room, c.read.auto.room) in
    most_off _ _ _ _ _ _ all c.loop-n.invariant.so_far c.in-Ok.ensures.bytes

pub returns-in_err-extend_from_slice-clause-took : goal.returns-in_err-extend_from_slice-clause-took
returns-in_err-extend_from_slice-clause-took g c =
    let front = take c.in-Ok.n c.read.new.room in
    let all : length c.loop-n.bytes.items + length front ≤ c.args.limit + 1 = omega (arith, length-take c.in-Ok.n c.read.new.room) in
    most_off _ _ _ _ _ _ all c.loop-n.invariant.so_far c.in-Ok.ensures.bytes
