use Rattle.std.proofs.Common.{rules, ◌<◌, ◌≤◌, ℕ, slice_get, slice_set, length, IsOk, sym, ap, subst, ◌∙◌, arith, refl}
use Rattle.std.specs.Prelude.{IfSome}
use Rattle.cluster_core.specs.Rows.{Changes, Accepts}
use Rattle.cluster_core.proofs.RowLemmas.{changed, not_there, at_place, past_end}
use Rattle.cluster_core.proofs.row.accept_at.Goals as goal

pub returns-in_default : goal.returns-in_default
returns-in_default c =
    let past : length c.args.servers.now.items ≤ c.args.at = search rules in
    not_there (Accepts c.args.message) c.args.at c.args.servers.now.items (past_end c.args.servers.now.items c.args.at past)

pub unreachable-requires : goal.unreachable-requires
unreachable-requires c =
    let inside : c.from.result < length c.args.servers.now.items = omega (arith, c.in-Some.ensures.variant.0 refl, c.args.servers.now.ok.0) in
    let there = ap (slice_get c.args.servers.now.items) (sym c.from.ensures) ∙ at_place c.args.servers.now.items c.from.result c.in-Some.server.now inside c.in-Some.ensures.value in
    let some : 0 < c.in-Some.server.now.inbox_room = subst (λ o. IfSome o (λ v. 0 < v.inbox_room)) there c.requires.room in
    let ok : IsOk c.accept.result = c.accept.ensures.had_room some in
    let bad = subst (λ r. IsOk r) c.in-Err.is ok in
    absurd (cc bad)

pub returns : goal.returns
returns c =
    let inside : c.from.result < length c.args.servers.now.items = omega (arith, c.in-Some.ensures.variant.0 refl, c.args.servers.now.ok.0) in
    let there = ap (slice_get c.args.servers.now.items) (sym c.from.ensures) ∙ at_place c.args.servers.now.items c.from.result c.in-Some.server.now inside c.in-Some.ensures.value in
    subst (λ (n : ℕ). Changes (Accepts c.args.message) c.args.at c.args.servers.now.items (slice_set c.args.servers.now.items n c.accept.new.self)) (sym c.from.ensures)
    (changed (Accepts c.args.message) c.args.at c.args.servers.now.items c.in-Some.server.now c.accept.new.self there
    (record { state = c.in-Ok.ensures.state; code = c.in-Ok.ensures.kept.0; options = c.in-Ok.ensures.kept.1; room = c.in-Ok.ensures.room }))
