use Rattle.std.proofs.Common.{◌∙◌, arith}
use Rattle.borrow_check.proofs.ScopeLemmas.{keep_step}
use Rattle.borrow_check.proofs.rules.keep.Goals as goal

pub slots-preserved : goal.slots-preserved
slots-preserved c =
    let step = keep_step c.args.base c.slots.env c.pop.new.self (omega arith) c.pop.ensures.rest in
    record { left = step.0; same = step.1 ∙ c.slots.invariant.same }
