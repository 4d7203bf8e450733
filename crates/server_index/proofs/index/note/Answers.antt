use Rattle.std.proofs.Common.{◌≡◌, ◌+◌, ◌-◌, ◌<◌, suc, Some, length, set, refl, ap, ◌∙◌, arith}
use Rattle.rank_map.specs.Places.{with_place}
use Rattle.server_index.specs.Rows.{row_places}
use Rattle.server_index.specs.Indexes.{place_in}
use Rattle.server_index.proofs.RowLemmas.{row_more, row_set, row_long}
use Rattle.server_index.proofs.index.note.Goals as goal

pub returns-clause-place : goal.returns-clause-place
returns-clause-place c =
    let old = c.args.row.now.items in
    let entries = c.widen.new.entries.items in
    let inside : c.args.column < length entries = omega (arith, row_long old entries (c.args.column + 1) c.in_ok-widen.ensures.more) in
    let entry : c.args.slot + 1 ≡ suc c.args.slot = omega arith in
    λ k.
    ap (λ e. row_places place_in k (set entries c.args.column e)) entry ∙ row_set place_in entries k c.args.column (suc c.args.slot) inside
    ∙ ap (λ ps. with_place ps (k + c.args.column) (Some (Some c.args.slot))) (ap (row_places place_in k) c.in_ok-widen.ensures.more ∙ row_more place_in old (c.args.column + 1 - length old) k refl)
