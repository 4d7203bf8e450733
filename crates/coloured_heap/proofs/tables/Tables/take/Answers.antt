use Rattle.std.proofs.Common.{subst}
use Rattle.std.proofs.lemmas.Result.{on_ok_weaker}
use Rattle.coloured_heap.specs.Tables.{Shows}
use Rattle.coloured_heap.specs.contracts.keys.WishPartialEq.TheImpl.{eq-value}
use Rattle.coloured_heap.proofs.ActLemmas.{issues}
use Rattle.coloured_heap.proofs.tables.Tables.take.Goals as goal

pub returns : goal.returns
returns c =
    on_ok_weaker c.issue.result (λ f s h. subst (Shows eq-value.it c.issue.new.self) (issues c.args.entry.now s c.args.act.now) (f _ (c.in_ok-change.ensures s h))) (rw c.issued_by.ensures at c.issue.ensures)
