use Rattle.std.proofs.Common.{◌<◌, [], length, set, refl, sym, subst, ap, ◌∙◌, arith}
use Rattle.std.proofs.lemmas.List.{get_or_read_under}
use Rattle.server_index.specs.Rows.{places_from}
use Rattle.server_index.specs.Ranks.{mark_in}
use Rattle.server_index.proofs.RankLemmas.{is_put}
use Rattle.server_index.proofs.ranks.Ranks.put.Goals as goal

pub index_mut-requires : goal.index_mut-requires
index_mut-requires c =
    let inside = (is_put c.self.inside.rows.items _ c.split-row.result.0 c.split-row.result.1 c.args.number c.state.result c.count_in-less.result _ c.args.state c.self.inside.total c.self.invariant c.self.view_is c.split-row.ensures.column c.split-row.ensures.key c.requires.place c.state.ensures c.count_in-less.ensures refl).inside in
    omega (arith, inside, c.self.inside.rows.ok.0)

pub put-requires : goal.put-requires
put-requires c =
    let rows = c.self.inside.rows.items in
    let is = is_put rows _ c.split-row.result.0 c.split-row.result.1 c.args.number c.state.result c.count_in-less.result _ c.args.state c.self.inside.total c.self.invariant c.self.view_is c.split-row.ensures.column c.split-row.ensures.key c.requires.place c.state.ensures c.count_in-less.ensures refl in
    let here = get_or_read_under rows c.split-row.result.0 (length rows) c.index_mut.result.now [] c.index_mut.ensures.value is.inside refl in
    record { within = subst (λ es. c.split-row.result.1 < length es) (sym here) is.within }

pub overflow_sub-self : goal.overflow_sub-self
overflow_sub-self c =
    (is_put c.self.inside.rows.items _ c.split-row.result.0 c.split-row.result.1 c.args.number c.state.result c.count_in-less.result _ c.args.state c.self.inside.total c.self.invariant c.self.view_is c.split-row.ensures.column c.split-row.ensures.key c.requires.place c.state.ensures c.count_in-less.ensures refl).least

pub overflow_add-self : goal.overflow_add-self
overflow_add-self c =
    let is = is_put c.self.inside.rows.items _ c.split-row.result.0 c.split-row.result.1 c.args.number c.state.result c.count_in-less.result c.count_in.result c.args.state c.self.inside.total c.self.invariant c.self.view_is c.split-row.ensures.column c.split-row.ensures.key c.requires.place c.state.ensures c.count_in-less.ensures c.count_in.ensures in
    omega (arith, is.least, is.fits)

pub invariant_of-self : goal.invariant_of-self
invariant_of-self c =
    let rows = c.self.inside.rows.items in
    let is = is_put rows _ c.split-row.result.0 c.split-row.result.1 c.args.number c.state.result c.count_in-less.result c.count_in.result c.args.state c.self.inside.total c.self.invariant c.self.view_is c.split-row.ensures.column c.split-row.ensures.key c.requires.place c.state.ensures c.count_in-less.ensures c.count_in.ensures in
    let here = get_or_read_under rows c.split-row.result.0 (length rows) c.index_mut.result.now [] c.index_mut.ensures.value is.inside refl in
    rw (c.put.ensures ∙ ap (λ es. set es c.split-row.result.1 c.args.state) here) is.kept

pub returns : goal.returns
returns c =
    let rows = c.self.inside.rows.items in
    let is = is_put rows _ c.split-row.result.0 c.split-row.result.1 c.args.number c.state.result c.count_in-less.result c.count_in.result c.args.state c.self.inside.total c.self.invariant c.self.view_is c.split-row.ensures.column c.split-row.ensures.key c.requires.place c.state.ensures c.count_in-less.ensures c.count_in.ensures in
    let here = get_or_read_under rows c.split-row.result.0 (length rows) c.index_mut.result.now [] c.index_mut.ensures.value is.inside refl in
    ap (λ es. places_from mark_in 0 (set rows c.split-row.result.0 es)) (c.put.ensures ∙ ap (λ es. set es c.split-row.result.1 c.args.state) here) ∙ is.seen
