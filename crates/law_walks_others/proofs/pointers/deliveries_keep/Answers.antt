use Rattle.law_walks_others.proofs.pointers.deliveries_keep.Goals as goal
use Rattle.law_walks_others.proofs.pointers.Delivered.{moves_followed, moves_wait, moves_taken, drops_followed, drops_wait, drops_taken}

pub returns : goal.returns
returns c = record { moves_followed = moves_followed; moves_turn = moves_wait; moves_taken = moves_taken; drops_followed = drops_followed; drops_turn = drops_wait; drops_taken = drops_taken }
