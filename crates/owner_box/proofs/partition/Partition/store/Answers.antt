use Rattle.std.proofs.Common.{rules}
use Rattle.global_addr.specs.Words.{address_of}
use Rattle.owner_box.proofs.States.{states_set, room_set}
use Rattle.owner_box.proofs.partition.Partition.store.Goals as goal

pub invariant_of-self : goal.invariant_of-self
invariant_of-self c =
    rw (c.set.ensures.set, c.set.ensures.spare, c.address-address.ensures.address) (
      states_set _ _ (address_of c.args.word) c.self.inside.cells.state _ _ (search rules) c.self.invariant.0,
      room_set _ _ _ _ (address_of c.args.word) c.self.inside.cells.state _ (search rules) c.self.invariant.1,
    )
