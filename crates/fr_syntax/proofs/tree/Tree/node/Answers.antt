use Rattle.std.proofs.Common.{◌<◌, length, arith}
use Rattle.fr_syntax.proofs.TreeLemmas.{node_seen}
use Rattle.fr_syntax.proofs.tree.Tree.node.Goals as goal

pub returns-then-at-len-clause-what : goal.returns-then-at-len-clause-what
returns-then-at-len-clause-what c =
    let here : c.args.at < length c.self.inside.nodes.items = omega arith in
    (node_seen _ _ _ _ _ c.self.invariant c.self.view_is here c.index.ensures).what

pub returns-then-at-len-clause-nodes : goal.returns-then-at-len-clause-nodes
returns-then-at-len-clause-nodes c =
    let here : c.args.at < length c.self.inside.nodes.items = omega arith in
    (node_seen _ _ _ _ _ c.self.invariant c.self.view_is here c.index.ensures).nodes

pub returns-then-at-len-clause-parts : goal.returns-then-at-len-clause-parts
returns-then-at-len-clause-parts c =
    let here : c.args.at < length c.self.inside.nodes.items = omega arith in
    (node_seen _ _ _ _ _ c.self.invariant c.self.view_is here c.index.ensures).parts

pub returns-then-at-len-clause-names : goal.returns-then-at-len-clause-names
returns-then-at-len-clause-names c =
    let here : c.args.at < length c.self.inside.nodes.items = omega arith in
    (node_seen _ _ _ _ _ c.self.invariant c.self.view_is here c.index.ensures).names_here
