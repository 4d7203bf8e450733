use Rattle.owner_box.proofs.ExactStates.{free_pairs, retired_exact}
use Rattle.owner_box.proofs.laws.states_law.Goals as goal

pub returns : goal.returns
returns c = record { free = free_pairs; retired = retired_exact }
