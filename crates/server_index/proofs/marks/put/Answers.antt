use Rattle.std.proofs.Common.{sym, ap, ◌∙◌, arith}
use Rattle.std.specs.List.{insert}
use Rattle.std.proofs.lemmas.Bool.{eqb-false}
use Rattle.server_index.proofs.MarkSetLemmas.{rank_in, rank_few, got, found_with, put_with}
use Rattle.server_index.proofs.marks.put.Goals as goal

pub returns-then-stands_at-clause-put : goal.returns-then-stands_at-clause-put
returns-then-stands_at-clause-put c h =
    found_with c.args.few.now.items c.args.number
    (sym (got c.args.few.now.items _ _ _ c.args.number c.as_slice.ensures.value c.as_slice-2.ensures.value c.rank_of-at.ensures) ∙ c.stands_at.ensures.yes c.if-stands_at.true)

pub insert-requires : goal.insert-requires
insert-requires c =
    let at = c.rank_of-at.ensures ∙ ap (λ js. rank_in js c.args.number) c.as_slice.ensures.value in
    let within = rank_few c.args.few.now.items c.args.number in
    let other = eqb-false _ _ (sym c.is_full.ensures.value ∙ c.if-is_full.false) in
    (omega arith, (omega (arith, at, within), omega (arith, other, c.is_full.ensures.fits)))

pub returns-clause-put : goal.returns-clause-put
returns-clause-put c h =
    c.insert.ensures.items ∙ ap (λ i. insert c.args.few.now.items i c.args.number) (c.rank_of-at.ensures ∙ ap (λ js. rank_in js c.args.number) c.as_slice.ensures.value)
    ∙ put_with c.args.few.now.items c.args.number
    (λ q. c.stands_at.ensures.no c.if-stands_at.false (got c.args.few.now.items _ _ _ c.args.number c.as_slice.ensures.value c.as_slice-2.ensures.value c.rank_of-at.ensures ∙ q))
