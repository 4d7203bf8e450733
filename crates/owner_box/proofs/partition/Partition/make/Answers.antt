use Rattle.std.proofs.Common.{rules}
use Rattle.owner_box.proofs.States.{states_made, room_made}
use Rattle.owner_box.proofs.partition.Partition.make.Goals as goal

pub invariant_of-self : goal.invariant_of-self
invariant_of-self c =
    let t = c.self.invariant.0 in
    let r = c.self.invariant.1 in
    rw (c.put_cell.ensures.put, c.pick-address.ensures.picked, c.next-next.ensures, c.pick-address.ensures.free, c.pick-address.ensures.retired, c.pick-address.ensures.spare)
    (states_made _ _ c.self.inside.cells.state _ c.args.cell (search rules) t, room_made _ _ _ c.self.inside.room _ _ _ _ _ c.args.cell t r (search rules) c.put_cell.ensures.spare)
