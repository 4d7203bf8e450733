use Rattle.std.proofs.Common.{◌≤◌, ◌+◌, ◌-◌, ◌<◌, ◌^◌, Some, None, length, refl, sym, subst, ap, ◌∙◌, arith}
use Rattle.std.proofs.lemmas.List.{length-set}
use Rattle.rank_map.specs.Places.{with_place}
use Rattle.server_index.specs.Rows.{row_places}
use Rattle.server_index.specs.Ranks.{mark_in}
use Rattle.server_index.proofs.RowLemmas.{row_more, row_set, row_long}
use Rattle.server_index.proofs.row.Row.reserve.Goals as goal

pub put-requires : goal.put-requires
put-requires c = record { within = omega (arith, row_long c.args.self.now c.widen.new.self (c.args.column + 1) c.in_ok-widen.ensures.more) }

pub returns-clause-place : goal.returns-clause-place
returns-clause-place c =
    let states = c.widen.new.self in
    let old = c.args.self.now in
    let inside : c.args.column < length states = omega (arith, row_long old states (c.args.column + 1) c.in_ok-widen.ensures.more) in
    λ k.
    ap (row_places mark_in k) c.put.ensures ∙ row_set mark_in states k c.args.column 1 inside
    ∙ ap (λ ps. with_place ps (k + c.args.column) (Some None)) (ap (row_places mark_in k) c.in_ok-widen.ensures.more ∙ row_more mark_in old (c.args.column + 1 - length old) k refl)

pub returns-clause-short : goal.returns-clause-short
returns-clause-short c = subst (λ n. n ≤ 2 ^ 32) (sym (ap length c.put.ensures ∙ length-set c.widen.new.self c.args.column 1)) c.in_ok-widen.ensures.short
