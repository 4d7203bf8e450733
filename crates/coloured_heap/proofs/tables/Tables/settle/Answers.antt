use Rattle.std.proofs.Common.{◌∙◌, sym}
use Rattle.coloured_heap.specs.contracts.keys.WishPartialEq.TheImpl.{eq-value}
use Rattle.coloured_heap.specs.Changes.{stored}
use Rattle.coloured_heap.proofs.Entering.{stores_shown, unnamed, named}
use Rattle.coloured_heap.proofs.tables.Tables.settle.Goals as goal

pub returns-then-not-may_name : goal.returns-then-not-may_name
returns-then-not-may_name c s h =
    let e = c.args.entry.now in
    let shown = stores_shown eq-value.it c.args.self.now e.labels s h in
    unnamed eq-value.it c.args.self.now e (stored e.labels s) (sym (c.may_name.ensures (stored e.labels s) shown) ∙ c.if-not-may_name.true)

pub returns : goal.returns
returns c s h =
    let e = c.args.entry.now in
    let shown = stores_shown eq-value.it c.args.self.now e.labels s h in
    named eq-value.it c.name.new.self e (stored e.labels s) (sym (c.may_name.ensures (stored e.labels s) shown) ∙ c.if-not-may_name.false) (c.in_ok-name.ensures (stored e.labels s) shown)
