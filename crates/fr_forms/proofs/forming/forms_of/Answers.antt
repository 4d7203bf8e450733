use Rattle.std.proofs.Common.{length, ap, arith}
use Rattle.fr_syntax.specs.Arena.{Arena}
use Rattle.fr_syntax.specs.Meanings.{meanings, term_of}
use Rattle.borrow_check.proofs.CheckLemmas.{here_by}
use Rattle.fr_forms.proofs.BuiltLemmas.{built_next, root_built, root_depth}
use Rattle.fr_forms.proofs.forming.forms_of.Goals as goal

pub nodes-preserved : goal.nodes-preserved
nodes-preserved c =
    let h = here_by c.tree-tree.result.now c.nodes.at c.in-Some.node.now c.in-Some.ensures.what c.in-Some.ensures.nodes c.in-Some.ensures.parts in
    let next = built_next c.args.checked.now c.tree-tree.result.now c.nodes.forms.items c.push-in-nodes.new.self.items c.nodes.counts.items c.push.new.self.items c.deref.result.now c.deref-in-nodes.result.now c.nodes.at c.in-Some.node.now c.in_ok-form.form c.count_in.result
    c.tree-tree.ensures.checked.arena c.tree-tree.ensures.tree h c.nodes.invariant.built c.nodes.invariant.so_many c.deref.ensures.value c.in_ok-form.ensures.made c.in_ok-form.ensures.below c.deref-in-nodes.ensures.value c.count_in.ensures c.in_ok-push-2.ensures.items c.in_ok-push.ensures.items in
    record { built = next.0; so_many = next.1 }

pub returns-clause-root : goal.returns-clause-root
returns-clause-root c = root_built c.args.checked.now c.nodes.forms.items c.nodes.counts.items c.tree-tree.ensures.checked c.nodes.invariant.built
    (omega (arith, c.nodes.invariant.so_many, c.nodes.auto.at-end, c.nodes-test.false, c.len-at-end.ensures.meanings, ap (λ (a : Arena). length (meanings a)) c.tree-tree.ensures.tree))

pub returns-clause-depth : goal.returns-clause-depth
returns-clause-depth c =
    root_depth c.nodes.forms.items (term_of c.args.checked.now.arena) c.tree-tree.ensures.checked.checkable.within (returns-clause-root c)
