use Rattle.std.proofs.Common.{◌<◌, ◌≤◌, subst}
use Rattle.rank_map.proofs.ForkLemmas.{at_fork, low_rank, high_rank}
use Rattle.rank_map.proofs.tree.Tree.+nth.Goals as goal

pub returns-then-at-below : goal.returns-then-at-below
returns-then-at-below g t c =
    let f = at_fork c.self.view_is c.self.invariant c.in-Fork.is c.deref-fork.ensures in
    let here = low_rank c.args.at f (subst (λ n. c.args.at < n) c.len-below.ensures c.if-at-below.true) in
    cc (c.nth-then-at-below.ensures, here)

pub returns-else-at-below : goal.returns-else-at-below
returns-else-at-below g t c =
    let f = at_fork c.self.view_is c.self.invariant c.in-Fork.is c.deref-fork.ensures in
    let here = high_rank c.args.at f (subst (λ n. n ≤ c.args.at) c.len-below.ensures c.if-at-below.false) in
    cc (c.nth-else-at-below.ensures, c.len-below.ensures, here)
