use Rattle.std.proofs.Common.{arith, sym, ◌∙◌}
use Rattle.server_parts.proofs.SeenLemmas.{rank_seen, passed_none, passed_before, passed_after, rank_few}
use Rattle.server_parts.proofs.marks.nth.Goals as goal

pub returns-in_default-nth : goal.returns-in_default-nth
returns-in_default-nth c = passed_none c.in-Some.left _ _ _ (rank_seen c.args.set.now c.args.left c.in-Some.left c.args.at c.requires.set c.in-Some.is) (sym c.in_default-nth.is ∙ c.nth-2.ensures)

pub returns-then-number-left : goal.returns-then-number-left
returns-then-number-left c =
    passed_before c.in-Some.left c.in-Some-nth.number _ _ _ (rank_seen c.args.set.now c.args.left c.in-Some.left c.args.at c.requires.set c.in-Some.is) (sym c.in-Some-nth.is ∙ c.nth-2.ensures) c.if-number-left.true

pub overflow_add-at : goal.overflow_add-at
overflow_add-at c =
    let few = rank_few c.args.set.now c.args.at c.in-Some-nth.number c.requires.set.0 (sym c.nth-2.ensures ∙ c.in-Some-nth.is) in
    omega (arith, few)

pub returns : goal.returns
returns c =
    c.nth-3.ensures
    ∙ passed_after c.in-Some.left c.in-Some-nth.number _ _ _ (rank_seen c.args.set.now c.args.left c.in-Some.left c.args.at c.requires.set c.in-Some.is) (sym c.in-Some-nth.is ∙ c.nth-2.ensures) c.if-number-left.false
