use Rattle.std.proofs.Common.{sym, ap, ◌∙◌}
use Rattle.fr_plain.specs.Whole.{ending_of}
use Rattle.fr_meaning.specs.Beside.{beside_of}
use Rattle.fr_meaning.specs.PoolView.{whole_of}
use Rattle.fr_meaning.proofs.EntryLemmas.{entries_whole}
use Rattle.fr_meaning.proofs.pool.Pool.ending.Goals as goal

pub returns : goal.returns
returns c =
    let p = c.self.inside in
    let fs = p.forms.items in
    let r = p.running in
    let whole = sym (ap whole_of c.self.view_is) ∙ entries_whole fs r.threads.items (beside_of r.common) r.output.items in
    c.ending_in.ensures fs c.self.invariant.order c.self.invariant.stands ∙ ap ending_of (sym whole)
