use Rattle.std.proofs.Common.{◌≡◌, length, arith}
use Rattle.fr_syntax.proofs.TreeLemmas.{added_seen}
use Rattle.fr_syntax.proofs.tree.Tree.add.Goals as goal

pub returns-clause-meaning : goal.returns-clause-meaning
returns-clause-meaning c =
    let number : c.len-number.result ≡ length c.self.inside.nodes.items = omega arith in
    (added_seen _ _ _ (record { term = c.args.term; place = c.args.place }) _ _ c.self.view_is c.in_ok-push.ensures.items number).0

pub returns-clause-keeps : goal.returns-clause-keeps
returns-clause-keeps c =
    let number : c.len-number.result ≡ length c.self.inside.nodes.items = omega arith in
    (added_seen _ _ _ (record { term = c.args.term; place = c.args.place }) _ _ c.self.view_is c.in_ok-push.ensures.items number).1
