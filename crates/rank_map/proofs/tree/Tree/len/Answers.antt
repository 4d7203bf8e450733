use Rattle.rank_map.proofs.ForkLemmas.{fork_len, at_fork}
use Rattle.rank_map.proofs.tree.Tree.len.Goals as goal

pub returns-in-Fork : goal.returns-in-Fork
returns-in-Fork g c = fork_len (at_fork c.self.view_is c.self.invariant c.in-Fork.is c.deref.ensures)
