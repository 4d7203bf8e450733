use Rattle.law_walks_others.proofs.pointers.pointers_stay.Goals as goal
use Rattle.law_walks_others.proofs.pointers.Others.{others_step}
use Rattle.law_walks_others.proofs.pointers.Steady.{steady_pointers}
use Rattle.law_walks_others.proofs.pointers.Delivered.{moves_pointers, drops_pointers}

pub returns : goal.returns
returns c = record { others = others_step; steady = steady_pointers; moves = moves_pointers; drops = drops_pointers }
