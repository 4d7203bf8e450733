use Rattle.std.proofs.Common.{rules, arith, ◌≡◌, ◌^◌, ◌∙◌, List, ℕ, ap}
use Rattle.std.specs.Prelude.{sum, map}
use Rattle.coloured_heap.specs.Figures.{kinds}
use Rattle.coloured_heap.proofs.Counted.{kind_counted, one_kind_more}
use Rattle.coloured_heap.proofs.Sums.{sum_of_counts}
use Rattle.coloured_heap.proofs.messages.count_kind.Goals as goal

pub returns-clause-counted : goal.returns-clause-counted
returns-clause-counted c f h = (rw (c.number.ensures.number, h) at c.add.ensures) ∙ kind_counted c.args.kind f

pub returns-then-total-eq-MOST-clause-full : goal.returns-then-total-eq-MOST-clause-full
returns-then-total-eq-MOST-clause-full c f h =
    let most : c.total.result ≡ 2 ^ 63 = search rules in
    let whole : c.total.result ≡ sum (map f kinds) = c.total.ensures.sum ∙ ap (λ (ns : List ℕ). sum ns) h in
    let added = sum_of_counts f kinds in
    let more = one_kind_more c.args.kind f in
    omega (arith, most, whole, added, more)
