use Rattle.fr_store.proofs.laws.swap_law.Goals as goal
use Rattle.fr_store.proofs.Swaps.{swap_trees}

pub returns : goal.returns
returns c = record { typed = swap_trees }
