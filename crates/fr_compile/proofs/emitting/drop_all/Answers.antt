use Rattle.fr_compile.proofs.Drops.{dropped_next}
use Rattle.fr_compile.proofs.emitting.drop_all.Goals as goal

pub slots-preserved : goal.slots-preserved
slots-preserved c = dropped_next c.args.code.now.items c.slots.code.items c.push.new.self.items c.slots.counter c.slots.invariant c.in_ok-push.ensures.pushed
