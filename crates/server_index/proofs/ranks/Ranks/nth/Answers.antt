use Rattle.std.proofs.Common.{◌+◌, ◌*◌, ◌^◌, ◌-◌, ◌<◌, ◌≤◌, [], Some, length, drop, refl, sym, ap, ◌∙◌, arith}
use Rattle.std.proofs.lemmas.List.{get_or_read_under}
use Rattle.server_index.specs.Rows.{places_from}
use Rattle.server_index.specs.Ranks.{mark_in}
use Rattle.server_index.proofs.RowLemmas.{short_at}
use Rattle.server_index.proofs.RankLemmas.{nth_key, rank_here, rank_later, rank_past, mark_inside}
use Rattle.server_index.proofs.ranks.Ranks.nth.Goals as goal

pub key_at-requires-clause-column : goal.key_at-requires-clause-column
key_at-requires-clause-column c =
    let rows = c.self.inside.rows.items in
    let inside : c.rows.row < length rows = omega (arith, c.rows-test.true, c.len-row-end.ensures, c.self.inside.rows.ok.0) in
    let here = get_or_read_under rows c.rows.row (length rows) c.index-states.result.now [] c.index-states.ensures inside refl in
    let within = mark_inside c.index-states.result.now c.find.result c.find.ensures.marked in
    let long = ap length here in
    let short = short_at rows c.rows.row c.self.invariant.short in
    omega (arith, within, long, short)

pub returns-then-left-count : goal.returns-then-left-count
returns-then-left-count c =
    let rows = c.self.inside.rows.items in
    let inside : c.rows.row < length rows = omega (arith, c.rows-test.true, c.len-row-end.ensures, c.self.inside.rows.ok.0) in
    ap Some c.key_at.ensures
    ∙ sym (rank_here rows c.rows.row c.rows.left c.find.result c.index-states.result.now inside c.index-states.ensures (omega (arith, c.if-left-count.true, c.len-count.ensures)) c.find.ensures.rank c.find.ensures.marked)
    ∙ c.rows.invariant ∙ ap (λ v. nth_key v c.args.at) c.self.view_is

pub rows-preserved : goal.rows-preserved
rows-preserved c =
    let rows = c.self.inside.rows.items in
    let inside : c.rows.row < length rows = omega (arith, c.rows-test.true, c.len-row-end.ensures, c.self.inside.rows.ok.0) in
    ap (λ n. nth_key (places_from mark_in ((c.rows.row + 1) * 2 ^ 32) (drop (c.rows.row + 1) rows)) (c.rows.left - n)) c.len-count.ensures
    ∙ sym (rank_later rows c.rows.row c.rows.left c.index-states.result.now inside c.index-states.ensures (omega (arith, c.if-left-count.false, c.len-count.ensures)))
    ∙ c.rows.invariant

pub returns : goal.returns
returns c =
    let rows = c.self.inside.rows.items in
    let past : length rows ≤ c.rows.row = omega (arith, c.rows-test.false, c.len-row-end.ensures, c.self.inside.rows.ok.0) in
    sym (rank_past rows c.rows.row c.rows.left past) ∙ c.rows.invariant ∙ ap (λ v. nth_key v c.args.at) c.self.view_is
