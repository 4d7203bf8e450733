use Rattle.std.proofs.Common.{None, refl, arith}
use Rattle.mutex_home.specs.declared.queues.Ends.{Ends}
use Rattle.mutex_home.proofs.QueueLemmas.{one_made, total_made}
use Rattle.mutex_home.proofs.queues.Queues.add.Goals as goal

pub invariant_of-self : goal.invariant_of-self
invariant_of-self c =
    let new : Ends = record { first = None; last = 0; waiting = 0 } in
    let total = total_made c.self.inside.ends.items new refl in
    rw c.push_reserved.ensures.items (one_made c.self.inside.nodes.slots c.self.inside.ends.items new c.self.invariant.0 refl refl, omega (arith, total, c.self.invariant.1))
