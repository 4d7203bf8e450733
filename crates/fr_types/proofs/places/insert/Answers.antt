use Rattle.std.proofs.Common.{◌≤◌, length, sym, ◌∙◌, arith}
use Rattle.fr_types.proofs.SetLemmas.{rank_le, there_seen, new_seen, end_seen}
use Rattle.fr_types.proofs.places.insert.Goals as goal
use Rattle.fr_types.proofs.places.insert.Goals.{else-at-len-via-then-at-len+else-not-is_before, else-at-len-via-else-at-len}

pub returns-then-not-is_before : goal.returns-then-not-is_before
returns-then-not-is_before c = there_seen c.args.u c.args.items.now.items c.deref.result.now c.rank-at.result c.index.result.now c.rank-at.ensures c.deref.ensures.value (omega arith) c.index.ensures (sym c.is_before.ensures ∙ c.if-not-is_before.true)

pub insert-requires : goal.insert-requires
insert-requires c =
    let le : c.rank-at.result ≤ length c.args.items.now.items = rank_le c.args.u c.args.items.now.items c.deref.result.now c.rank-at.result c.rank-at.ensures c.deref.ensures.value in
    omega (arith, c.args.items.now.ok.0)

pub returns : goal.returns
returns c = elim c.else-at-len.branch [
  | else-at-len-via-then-at-len+else-not-is_before w ↦ c.in_ok-insert.ensures.items ∙ new_seen c.args.u c.args.items.now.items c.deref.result.now c.rank-at.result w.index.result.now c.rank-at.ensures c.deref.ensures.value w.index.ensures (sym w.is_before.ensures ∙ w.if-not-is_before.false)
  | else-at-len-via-else-at-len w ↦ c.in_ok-insert.ensures.items ∙ end_seen c.args.u c.args.items.now.items c.deref.result.now c.rank-at.result c.rank-at.ensures c.deref.ensures.value (omega arith)
]
