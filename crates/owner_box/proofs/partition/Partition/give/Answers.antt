use Rattle.std.proofs.Common.{arith, rules}
use Rattle.owner_box.proofs.States.{states_freed, room_freed}
use Rattle.owner_box.proofs.Counts.{live-take}
use Rattle.owner_box.proofs.partition.Partition.give.Goals as goal

pub free-requires-clause-room : goal.free-requires-clause-room
free-requires-clause-room c =
    let less = live-take c.self.inside.cells.state c.address.result (search rules) in
    omega (arith, less, c.self.invariant.1.count, c.self.invariant.1.for_pairs)

pub overflow_sub-self : goal.overflow_sub-self
overflow_sub-self c =
    let less = live-take c.self.inside.cells.state c.address.result (search rules) in omega (arith, less, c.self.invariant.1.count)

pub invariant_of-self : goal.invariant_of-self
invariant_of-self c =
    rw (c.take-cell.ensures.left, c.take-cell.ensures.spare, c.address.ensures.address, c.free.ensures.free, c.free.ensures.retired, c.free.ensures.spare) (
      states_freed c.self.inside.limit _ c.args.word c.self.inside.cells.state _ (search rules) (search rules) c.self.invariant.0,
      room_freed _ _ _ _ _ c.args.word c.self.inside.cells.state (search rules) c.self.invariant.1,
    )
