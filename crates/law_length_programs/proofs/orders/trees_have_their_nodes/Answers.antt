use Rattle.law_length_programs.proofs.orders.trees_have_their_nodes.Goals as goal
use Rattle.law_length_programs.proofs.orders.Trees.{trees_have_their_nodes}

pub returns : goal.returns
returns c = trees_have_their_nodes
