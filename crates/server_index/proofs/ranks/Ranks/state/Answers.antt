use Rattle.std.proofs.Common.{◌<◌, ◌≤◌, [], length, get_or, refl, ap, ◌∙◌, arith}
use Rattle.std.proofs.lemmas.List.{get_or_read_under}
use Rattle.rank_map.specs.Places.{place_at}
use Rattle.server_index.specs.Ranks.{mark_in}
use Rattle.server_index.proofs.RowLemmas.{told, untold}
use Rattle.server_index.proofs.ranks.Ranks.state.Goals as goal

pub returns-then-row-len : goal.returns-then-row-len
returns-then-row-len c =
    let rows = c.self.inside.rows.items in
    let row = c.split-row.result.0 in
    let column = c.split-row.result.1 in
    let inside : row < length rows = omega (arith, c.if-row-len.true, c.len.ensures, c.self.inside.rows.ok.0) in
    let here = get_or_read_under rows row (length rows) c.index.result.now [] c.index.ensures inside refl in
    ap mark_in (c.state.ensures ∙ ap (λ es. get_or es column 0) here) ∙ told mark_in rows row column c.args.number refl c.self.invariant.short c.split-row.ensures.column c.split-row.ensures.key
    ∙ ap (λ v. place_at v c.args.number) c.self.view_is

pub returns-else-row-len : goal.returns-else-row-len
returns-else-row-len c =
    let rows = c.self.inside.rows.items in
    let past : length rows ≤ c.split-row.result.0 = omega (arith, c.if-row-len.false, c.len.ensures, c.self.inside.rows.ok.0) in
    untold mark_in rows c.split-row.result.0 c.split-row.result.1 c.args.number refl c.self.invariant.short c.split-row.ensures.column c.split-row.ensures.key past ∙ ap (λ v. place_at v c.args.number) c.self.view_is
