use Rattle.std.proofs.Common.{◌++◌, ap}
use Rattle.fr_compile.proofs.Captured.{listed, listed_next, listed_all}
use Rattle.fr_compile.proofs.emitting.list_captures.Goals as goal

pub slots-init : goal.slots-init
slots-init c = ap (λ xs. xs ++ listed c.args.captures.now) c.new-list.ensures

pub slots-preserved : goal.slots-preserved
slots-preserved c = listed_next c.args.captures.now c.slots.list.items c.push.new.self.items c.slots.next-index _ c.slots-test.true c.in_ok-push.ensures.pushed c.slots.invariant

pub returns : goal.returns
returns c = listed_all c.args.captures.now c.slots.list.items c.slots.next-index c.slots-test.false c.slots.invariant
