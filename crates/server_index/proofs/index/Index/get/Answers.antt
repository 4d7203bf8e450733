use Rattle.std.proofs.Common.{◌<◌, ◌≤◌, length, get_or, refl, ap, ◌∙◌, arith}
use Rattle.std.proofs.lemmas.List.{length-map}
use Rattle.rank_map.specs.Places.{item_in, item_at}
use Rattle.server_index.specs.Lists.{lists}
use Rattle.server_index.specs.Indexes.{place_in}
use Rattle.server_index.proofs.RowLemmas.{told, untold}
use Rattle.server_index.proofs.IndexLemmas.{row_here}
use Rattle.server_index.proofs.index.Index.get.Goals as goal

pub returns-then-row-len : goal.returns-then-row-len
returns-then-row-len c =
    let rows = c.self.inside.rows.items in
    let inside : c.split-row.result.0 < length rows = omega (arith, c.if-row-len.true, c.len.ensures, c.self.inside.rows.ok.0) in
    let entries = c.deref.ensures.value ∙ row_here rows c.split-row.result.0 c.index.result.now inside c.index.ensures in
    c.slot_in.ensures ∙ ap (λ e. item_in (place_in e)) (c.entry_at.ensures ∙ ap (λ es. get_or es c.split-row.result.1 0) entries)
    ∙ ap item_in (told place_in (lists rows) c.split-row.result.0 c.split-row.result.1 c.args.key refl c.self.invariant c.split-row.ensures.column c.split-row.ensures.key) ∙ ap (λ v. item_at v c.args.key) c.self.view_is

pub returns-else-row-len : goal.returns-else-row-len
returns-else-row-len c =
    let rows = c.self.inside.rows.items in
    let past : length (lists rows) ≤ c.split-row.result.0 = omega (arith, c.if-row-len.false, c.len.ensures, c.self.inside.rows.ok.0, length-map rows (λ r. r.items)) in
    ap item_in (untold place_in (lists rows) c.split-row.result.0 c.split-row.result.1 c.args.key refl c.self.invariant c.split-row.ensures.column c.split-row.ensures.key past) ∙ ap (λ v. item_at v c.args.key) c.self.view_is
