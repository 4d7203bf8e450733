use Rattle.std.proofs.Common.{sym, ap, ◌∙◌}
use Rattle.std.specs.List.{remove}
use Rattle.server_index.proofs.MarkSetLemmas.{rank_in, got, found_without, absent_without}
use Rattle.server_index.proofs.marks.take_out.Goals as goal

pub returns-then-stands_at : goal.returns-then-stands_at
returns-then-stands_at c =
    c.remove.ensures.items ∙ ap (remove c.args.few.now.items) (c.rank_of-at.ensures ∙ ap (λ js. rank_in js c.args.number) c.as_slice.ensures.value)
    ∙ found_without c.args.few.now.items c.args.number
    (sym (got c.args.few.now.items _ _ _ c.args.number c.as_slice.ensures.value c.as_slice-2.ensures.value c.rank_of-at.ensures) ∙ c.stands_at.ensures.yes c.if-stands_at.true)

pub returns-else-stands_at : goal.returns-else-stands_at
returns-else-stands_at c =
    absent_without c.args.few.now.items c.args.number
    (λ q. c.stands_at.ensures.no c.if-stands_at.false (got c.args.few.now.items _ _ _ c.args.number c.as_slice.ensures.value c.as_slice-2.ensures.value c.rank_of-at.ensures ∙ q))
