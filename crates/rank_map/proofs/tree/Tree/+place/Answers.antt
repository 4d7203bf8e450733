use Rattle.rank_map.proofs.ForkLemmas.{at_fork, low_item, high_item}
use Rattle.rank_map.proofs.tree.Tree.+place.Goals as goal

pub returns-then-key-fork : goal.returns-then-key-fork
returns-then-key-fork g t c =
    let f = at_fork c.self.view_is c.self.invariant c.in-Fork.is c.deref-fork.ensures in
    let here = low_item c.args.key f c.if-key-fork.true in
    cc (c.place-then-key-fork.ensures, here)

pub returns-else-key-fork : goal.returns-else-key-fork
returns-else-key-fork g t c =
    let f = at_fork c.self.view_is c.self.invariant c.in-Fork.is c.deref-fork.ensures in
    let here = high_item c.args.key f c.if-key-fork.false in
    cc (c.place-else-key-fork.ensures, here)
