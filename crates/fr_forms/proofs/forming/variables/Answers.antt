use Rattle.std.proofs.Common.{length, sym, ap, arith}
use Rattle.fr_forms.specs.Forming.{count_all}
use Rattle.borrow_check.proofs.TermLemmas.{next_first}
use Rattle.fr_forms.proofs.NodeLemmas.{all_at}
use Rattle.fr_forms.proofs.forming.variables.Goals as goal

pub bounds-counts-node : goal.bounds-counts-node
bounds-counts-node c = all_at (length c.args.counts.now) c.args.nodes.now.items c.nodes.next c.in-Some.node.now c.requires c.in-Some.ensures

pub nodes-preserved : goal.nodes-preserved
nodes-preserved c = λ lt.
    let d = ap (count_all c.args.counts.now) (next_first c.args.nodes.now.items c.nodes.next c.in-Some.node.now (sym c.in-Some.ensures)) in
    omega (arith, lt, d, c.nodes.invariant lt, c.saturating_add-count.ensures)
