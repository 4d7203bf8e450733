use Rattle.std.proofs.Common.{◌≡◌, ◌<◌, ◌≤◌, ◌^◌, false, is_some, length, sym, ap, ◌∙◌, arith}
use Rattle.rank_map.specs.Places.{has_place, entries}
use Rattle.server_index.specs.Ranks.{mark_in}
use Rattle.server_index.proofs.RowLemmas.{longer_rows}
use Rattle.server_index.proofs.RankLemmas.{reserved}
use Rattle.server_index.proofs.ranks.Ranks.reserve.Goals as goal

pub invariant_of-self-2 : goal.invariant_of-self-2
invariant_of-self-2 c =
    let rows = c.make_rows.new.rows.items in
    let more = longer_rows mark_in c.self.inside.rows.items rows c.self.invariant.short c.in_ok-make_rows.ensures.longer in
    let most : length rows ≤ 2 ^ 8 = omega (arith, c.in_ok-make_rows.ensures.most, c.self.invariant.few, c.split-row.ensures.key, c.split-row.ensures.column, c.requires.few) in
    let inside : c.split-row.result.0 < length rows = omega (arith, c.in_ok-make_rows.ensures.enough) in
    let none : has_place c.args.self.now c.args.number ≡ false = ap is_some (sym c.state.ensures ∙ ap mark_in c.if-state-ne-NONE.false) in
    let counted = c.self.invariant.counted ∙ ap (λ ps. length (entries ps)) c.self.view_is in
    (reserved rows c.split-row.result.0 c.split-row.result.1 c.args.number c.self.inside.total c.index_mut.result.now c.reserve.new.self c.reserve.result more.short most (more.same ∙ c.self.view_is) counted c.split-row.ensures.column c.split-row.ensures.key inside c.index_mut.ensures.value c.reserve.ensures.short none c.reserve.ensures.place c.reserve.ensures.refused).ranks

pub returns-clause-place : goal.returns-clause-place
returns-clause-place c =
    let rows = c.make_rows.new.rows.items in
    let more = longer_rows mark_in c.self.inside.rows.items rows c.self.invariant.short c.in_ok-make_rows.ensures.longer in
    let most : length rows ≤ 2 ^ 8 = omega (arith, c.in_ok-make_rows.ensures.most, c.self.invariant.few, c.split-row.ensures.key, c.split-row.ensures.column, c.requires.few) in
    let inside : c.split-row.result.0 < length rows = omega (arith, c.in_ok-make_rows.ensures.enough) in
    let none : has_place c.args.self.now c.args.number ≡ false = ap is_some (sym c.state.ensures ∙ ap mark_in c.if-state-ne-NONE.false) in
    let counted = c.self.invariant.counted ∙ ap (λ ps. length (entries ps)) c.self.view_is in
    (reserved rows c.split-row.result.0 c.split-row.result.1 c.args.number c.self.inside.total c.index_mut.result.now c.reserve.new.self c.reserve.result more.short most (more.same ∙ c.self.view_is) counted c.split-row.ensures.column c.split-row.ensures.key inside c.index_mut.ensures.value c.reserve.ensures.short none c.reserve.ensures.place c.reserve.ensures.refused).place

pub returns-clause-refused : goal.returns-clause-refused
returns-clause-refused c =
    let rows = c.make_rows.new.rows.items in
    let more = longer_rows mark_in c.self.inside.rows.items rows c.self.invariant.short c.in_ok-make_rows.ensures.longer in
    let most : length rows ≤ 2 ^ 8 = omega (arith, c.in_ok-make_rows.ensures.most, c.self.invariant.few, c.split-row.ensures.key, c.split-row.ensures.column, c.requires.few) in
    let inside : c.split-row.result.0 < length rows = omega (arith, c.in_ok-make_rows.ensures.enough) in
    let none : has_place c.args.self.now c.args.number ≡ false = ap is_some (sym c.state.ensures ∙ ap mark_in c.if-state-ne-NONE.false) in
    let counted = c.self.invariant.counted ∙ ap (λ ps. length (entries ps)) c.self.view_is in
    (reserved rows c.split-row.result.0 c.split-row.result.1 c.args.number c.self.inside.total c.index_mut.result.now c.reserve.new.self c.reserve.result more.short most (more.same ∙ c.self.view_is) counted c.split-row.ensures.column c.split-row.ensures.key inside c.index_mut.ensures.value c.reserve.ensures.short none c.reserve.ensures.place c.reserve.ensures.refused).refused
